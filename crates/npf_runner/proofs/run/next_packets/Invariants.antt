use Rattle.std.proofs.Common.{◌≡◌, ◌≤◌, ◌++◌, vec_len, vec_capacity}
use Rattle.npf_runner.proofs.run.next_packets.Given as goal

abbrev pub invariant-loop : goal.invariant-loop
invariant-loop l = (l.initial.left.items ≡ l.packets.items ++ l.left.items) × (vec_len l.packets ≡ l.counter) × (l.count ≤ vec_capacity l.packets)
