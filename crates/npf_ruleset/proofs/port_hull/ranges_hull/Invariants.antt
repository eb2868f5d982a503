use Rattle.std.proofs.Common.{Some, take}
use Rattle.npf_ruleset.specs.Row.{IsHullOfPorts}
use Rattle.npf_ruleset.proofs.port_hull.ranges_hull.Given as goal

abbrev pub invariant-loop-range : goal.invariant-loop-range
invariant-loop-range l = IsHullOfPorts (Some (take l.range-index l.ranges)) (Some l.hull)
