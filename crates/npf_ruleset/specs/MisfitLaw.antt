-- A packet fits every part of a rule exactly where the rule matches it, and every part of a map exactly where the map applies to it.
use Rattle.std.specs.Prelude.{◌≡◌, not}
use Rattle.std.specs.Option.{is_some}
use Rattle.npf_types.specs.declared.direction.Dir.{Dir}
use Rattle.npf_types.specs.declared.facts.Facts.{Facts}
use Rattle.npf_types.specs.declared.interface.IfId.{IfId}
use Rattle.npf_model.specs.declared.map.Map.{Map}
use Rattle.npf_model.specs.Describes.{Tables}
use Rattle.npf_model.specs.MapOf.{map_applies}
use Rattle.npf_model.specs.Verdict.{PlacedRule, matches}
use Rattle.npf_ruleset.specs.Misfit.{map_misfit, rule_misfit}

abbrev pub MatchesWithoutMisfit : Type 0
MatchesWithoutMisfit =
    (tables : Tables) (facts : Facts) (ifid : IfId) (dir : Dir) (placed : PlacedRule)
    → matches tables facts ifid dir placed ≡ not (is_some (rule_misfit placed tables facts ifid dir))

abbrev pub AppliesWithoutMisfit : Type 0
AppliesWithoutMisfit =
    (tables : Tables) (facts : Facts) (ifid : IfId) (dir : Dir) (map : Map)
    → map_applies tables facts ifid dir map ≡ not (is_some (map_misfit map tables facts ifid dir))
