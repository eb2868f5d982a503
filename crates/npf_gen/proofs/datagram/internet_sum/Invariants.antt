use Rattle.std.{proofs.Common.{◌≡◌, ◌≤◌, ◌*◌, take}, specs.Prelude.sum}
use Rattle.npf_gen.proofs.datagram.internet_sum.Given as goal

abbrev pub invariant-loop-word : goal.invariant-loop-word
invariant-loop-word l = (l.total ≡ sum (take l.word-index l.words)) × (l.total ≤ 65535 * l.word-index)
