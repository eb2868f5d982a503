use Rattle.npf_ruleset.proofs.RowLemmas.{more_ranges}
use Rattle.npf_ruleset.proofs.port_hull.ranges_hull.Goals as goal

pub loop-range-preserved : goal.loop-range-preserved
loop-range-preserved c =
    more_ranges c.args.ranges.now c.loop-range.range-index c.loop-range.hull c.joined-hull.result c.loop-range-test.true
    c.loop-range.invariant c.joined-hull.ensures.one c.joined-hull.ensures.other
