use Rattle.std.proofs.Common.{arith}
use Rattle.std.proofs.Math.Facts.{Fits-lt-pow}
use Rattle.npf_bits.proofs.BitLemmas.{has-difference}
use Rattle.npf_bits.proofs.combine.difference_with.Goals as goal

pub returns : goal.returns
returns c = has-difference c.args.a.now c.args.b.now c.loop-at.a (omega arith) (λ k. Fits-lt-pow (c.type_inv.b k)) (λ k h. c.loop-at.invariant.changed k (omega arith))
