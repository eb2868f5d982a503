use Rattle.std.proofs.Common.{true≢false, sym, ◌∙◌}
use Rattle.npf_lpm.proofs.RowLemmas.{high_first, high_cut, high_more}
use Rattle.npf_lpm.proofs.rows.count_before.Goals as goal

pub loop-place-init : goal.loop-place-init
loop-place-init c = high_first c.args.firsts.now c.args.lengths.now c.args.block c.args.count c.requires.ordered c.requires.short c.requires.count

pub returns-then-stands_before : goal.returns-then-stands_before
returns-then-stands_before c = high_cut c.args.firsts.now c.args.lengths.now c.args.block c.args.count c.loop-place.place c.requires.ordered c.requires.count.most c.loop-place.invariant
    c.loop-place-test.true (c.stands_before.ensures.0 c.if-stands_before.true)

pub loop-place-preserved : goal.loop-place-preserved
loop-place-preserved c = high_more c.args.firsts.now c.args.lengths.now c.args.block c.args.count c.loop-place.place c.requires.ordered c.requires.count.most c.loop-place.invariant
    c.loop-place-test.true (λ less. true≢false (sym (c.stands_before.ensures.1 less) ∙ c.if-stands_before.false))
