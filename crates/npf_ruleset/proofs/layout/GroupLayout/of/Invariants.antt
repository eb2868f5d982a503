use Rattle.std.{proofs.Common.{[], take}, specs.List.AllZip}
use Rattle.npf_model.specs.Verdict.{all_rules}
use Rattle.npf_ruleset.specs.{Flat.IsFlatGroup, Layout.AddsPlaces}
use Rattle.npf_ruleset.proofs.layout.GroupLayout.of.Given as goal

abbrev pub invariant-loop-number : goal.invariant-loop-number
invariant-loop-number l =
    AddsPlaces l.groups (all_rules (take l.number l.groups)) [] l.layout.places.items × AllZip IsFlatGroup (take l.number l.groups) l.layout.groups.items
