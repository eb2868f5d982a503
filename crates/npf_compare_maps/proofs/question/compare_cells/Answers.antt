use Rattle.npf_compare_maps.proofs.SideLemmas.{is_comparison}
use Rattle.npf_compare_maps.proofs.question.compare_cells.Goals as goal

pub differences-requires : goal.differences-requires
differences-requires c =
    is_comparison c.args.tables.now c.args.products.now c.args.sides.before c.args.sides.after c.in_ok-packets.packets c.in_ok-packets.ensures.of c.in_ok-packets.ensures.all
    c.requires.before c.requires.after

pub returns-clause-differences : goal.returns-clause-differences
returns-clause-differences c = c.in_ok-differences.ensures.differences
