use Rattle.std.proofs.Common.{arith}
use Rattle.std.proofs.Math.Facts.{Fits-lt-pow}
use Rattle.npf_bits.proofs.BitLemmas.{first_number, no_number}
use Rattle.npf_bits.proofs.compare.first.Goals as goal

pub returns-then-word-ne0 : goal.returns-then-word-ne0
returns-then-word-ne0 c = first_number c.args.words.now c.loop-at.at c.if-word-ne0.true (Fits-lt-pow (c.type_inv.words c.loop-at.at)) c.loop-at.invariant

pub returns : goal.returns
returns c = no_number c.args.words.now (λ k h. c.loop-at.invariant k (omega arith))
