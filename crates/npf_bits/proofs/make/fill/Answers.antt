use Rattle.std.proofs.Common.{arith}
use Rattle.npf_bits.proofs.BitLemmas.{has_filled}
use Rattle.npf_bits.proofs.make.fill.Goals as goal

pub returns : goal.returns
returns c = has_filled c.loop-word.words c.args.count (omega arith) (λ k h. c.loop-word.invariant.filled k (omega arith))
