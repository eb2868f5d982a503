use Rattle.std.proofs.Common.{Some, false, take}
use Rattle.npf_ruleset.specs.Row.{IsHullOfAddrs}
use Rattle.npf_ruleset.proofs.addr_hull.items_hull.Given as goal

abbrev pub invariant-loop-item : goal.invariant-loop-item
invariant-loop-item l = IsHullOfAddrs false (Some (take l.item-index l.items)) (Some l.hull)
