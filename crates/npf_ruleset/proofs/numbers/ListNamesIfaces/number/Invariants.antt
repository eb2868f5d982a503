use Rattle.std.proofs.Common.{◌≡◌, map, take, drop}
use Rattle.npf_ruleset.proofs.numbers.ListNamesIfaces.number.Given as goal

abbrev pub invariant-loop-item : goal.invariant-loop-item
invariant-loop-item g l =
    (take l.item-index l.item-items ≡ map (g.T.NamesIfaces.numbered l.ifaces) (take l.item-index l.initial.item-items)) × (drop l.item-index l.item-items ≡ drop l.item-index l.initial.item-items)
