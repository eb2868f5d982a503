use Rattle.std.proofs.Common.{◌≡◌, ◌+◌, vec_len, vec_capacity}
use Rattle.npf_oneturn_store.proofs.keys.fill.Given as goal

abbrev pub invariant-loop : goal.invariant-loop
invariant-loop g l = (vec_len l.items ≡ vec_len l.initial.items + l.counter) × (vec_capacity l.items ≡ vec_capacity l.initial.items)
