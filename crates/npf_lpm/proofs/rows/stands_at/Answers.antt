use Rattle.std.proofs.Common.{arith}
use Rattle.npf_lpm.proofs.RowLemmas.{at_place, length-blocks}
use Rattle.npf_lpm.proofs.rows.stands_at.Goals as goal

pub returns-then-place-firsts : goal.returns-then-place-firsts
returns-then-place-firsts c = (
  λ h. cc,
  λ there. let lt = there.within in absurd (omega (arith, length-blocks c.args.firsts.now c.args.lengths.now c.requires.ordered.pairs, c.if-place-firsts.true)),
)

pub returns : goal.returns
returns c =
    let at = at_place c.args.firsts.now c.args.lengths.now c.args.place c.args.block c.requires.ordered.pairs (omega (arith, c.if-place-firsts.false)) in
    (λ h. at.0 (c.is_block.ensures.0 h), λ there. c.is_block.ensures.1 (at.1 there))
