use Rattle.std.proofs.Common.{sym, subst}
use Rattle.npf_compare.specs.Side.{AreJoined}
use Rattle.npf_compare.proofs.AnswerLemmas.{are_differences}
use Rattle.npf_compare.proofs.SideLemmas.{of_both}
use Rattle.npf_compare.proofs.compare.compare_sides.Goals as goal

pub asked-requires-clause-of : goal.asked-requires-clause-of
asked-requires-clause-of c =
    of_both c.args.old c.args.new c.as_slice-tables.result.now c.as_slice-2.result.now
    (subst (AreJoined c.args.old c.args.new c.as_slice-tables.result.now) (sym c.as_slice-2.ensures.value) c.in_ok-products.ensures)
    c.in_ok-packets.packets c.in_ok-packets.ensures.of c.in_ok-packets.ensures.all

pub differences-requires-clause-of : goal.differences-requires-clause-of
differences-requires-clause-of c =
    of_both c.args.old c.args.new c.as_slice-tables.result.now c.as_slice-2.result.now
    (subst (AreJoined c.args.old c.args.new c.as_slice-tables.result.now) (sym c.as_slice-2.ensures.value) c.in_ok-products.ensures)
    c.in_ok-packets.packets c.in_ok-packets.ensures.of c.in_ok-packets.ensures.all

pub returns-clause-differences : goal.returns-clause-differences
returns-clause-differences c =
    are_differences c.args.old c.args.new c.requires.old c.requires.new c.first_match_decides.ensures c.each_rule_once.ensures c.in_ok-asked.asked c.in_ok-asked.ensures
    c.in_ok-differences.differences.items c.in_ok-differences.ensures.told
