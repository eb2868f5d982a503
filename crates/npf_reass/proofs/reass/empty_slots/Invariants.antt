use Rattle.std.{proofs.Common.{◌≡◌, ◌-◌, ◌≤◌, [], vec_len}, specs.Prelude.All}
use Rattle.npf_reass.proofs.reass.empty_slots.Given as goal

abbrev pub invariant-loop-alloc : goal.invariant-loop-alloc
invariant-loop-alloc l = (vec_len l.slots ≤ l.classes) × All (λ slot. slot.offers.items ≡ []) l.slots.items

abbrev pub decreases-loop-alloc : goal.decreases-loop-alloc
decreases-loop-alloc l = l.classes - vec_len l.slots
