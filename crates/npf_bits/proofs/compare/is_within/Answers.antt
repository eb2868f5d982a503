use Rattle.std.proofs.Common.{arith, refl, sym, true≢false}
use Rattle.std.proofs.Math.Facts.{Fits-lt-pow}
use Rattle.npf_bits.proofs.BitLemmas.{number_left, none_left}
use Rattle.npf_bits.proofs.compare.is_within.Goals as goal

pub returns-then-word-b-ne0 : goal.returns-then-word-b-ne0
returns-then-word-b-ne0 c =
    let k = c.loop-at.at in
    let a_fits = Fits-lt-pow (c.type_inv.a k) in
    let b_fits = Fits-lt-pow (c.type_inv.b k) in (
      λ no. absurd (true≢false (sym no)),
      λ within. absurd (number_left c.args.a.now c.args.b.now k a_fits b_fits c.if-word-b-ne0.true within),
    )

pub returns : goal.returns
returns c = (λ _. none_left c.args.a.now c.args.b.now (λ k. Fits-lt-pow (c.type_inv.b k)) (λ k h. c.loop-at.invariant k (omega arith)), λ _. refl)
