use Rattle.std.proofs.Common.{flat_map, take}
use Rattle.npf_model.specs.Verdict.{rules_at}
use Rattle.npf_ruleset.specs.Layout.{AddsPlaces}
use Rattle.npf_ruleset.proofs.layout.add_group.Given as goal

abbrev pub invariant-loop-at : goal.invariant-loop-at
invariant-loop-at l = AddsPlaces l.groups (flat_map rules_at (take l.at l.item-items)) l.fn.places.items l.places.items
