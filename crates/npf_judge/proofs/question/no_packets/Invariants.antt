use Rattle.std.proofs.Common.{◌≡◌, None, replicate}
use Rattle.npf_judge.proofs.question.no_packets.Given as goal

abbrev pub invariant-loop : goal.invariant-loop
invariant-loop l = l.packets.items ≡ replicate l.counter None
