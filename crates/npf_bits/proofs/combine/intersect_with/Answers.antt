use Rattle.std.proofs.Common.{arith}
use Rattle.npf_bits.proofs.BitLemmas.{has-intersect}
use Rattle.npf_bits.proofs.combine.intersect_with.Goals as goal

pub returns : goal.returns
returns c = has-intersect c.args.a.now c.args.b.now c.loop-at.a (omega arith) (λ k h. c.loop-at.invariant.changed k (omega arith))
