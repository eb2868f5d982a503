use Rattle.std.proofs.Common.{true≢false, sym, ◌∙◌}
use Rattle.npf_lpm.proofs.RowLemmas.{cut_absent}
use Rattle.npf_lpm.proofs.rows.find.Goals as goal

pub returns : goal.returns
returns c = record {
  absent = cut_absent c.args.firsts.now c.args.lengths.now c.args.block c.count_before-place.result c.requires.ordered c.count_before-place.ensures
      (λ there. true≢false (sym (c.stands_at.ensures.1 there) ∙ c.if-stands_at.false));
  between = c.count_before-place.ensures;
}
