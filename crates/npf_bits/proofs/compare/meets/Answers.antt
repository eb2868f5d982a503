use Rattle.std.proofs.Common.{arith, refl, sym, true≢false}
use Rattle.std.proofs.Math.Facts.{Fits-lt-pow}
use Rattle.npf_bits.proofs.BitLemmas.{shared_number, no_shared}
use Rattle.npf_bits.proofs.compare.meets.Goals as goal

pub returns-then-word-b-ne0 : goal.returns-then-word-b-ne0
returns-then-word-b-ne0 c = (λ _. shared_number c.args.a.now c.args.b.now c.loop-at.at (Fits-lt-pow (c.type_inv.a c.loop-at.at)) c.if-word-b-ne0.true, λ _. refl)

pub returns : goal.returns
returns c = (λ no. absurd (true≢false (sym no)), λ some. absurd (no_shared c.args.a.now c.args.b.now (λ k h. c.loop-at.invariant k (omega arith)) some.0 some.1 some.2))
