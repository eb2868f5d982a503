-- How rules are laid out one after another: where they stand, and what a part of the work adds.
use Rattle.std.specs.Prelude.{◌≡◌, ℕ, zero, suc, List, [], ◌∷◌, ◌++◌, Option, Some, None}
use Rattle.std.specs.List.{AllZip}
use Rattle.npf_model.specs.declared.group.Group.{Group}
use Rattle.npf_model.specs.Verdict.{PlacedRule, all_rules, rules_of}
use Rattle.npf_bpfgen.specs.declared.fault.GenFault.{GenFault}
use Rattle.npf_bpfgen.specs.declared.fault.GenFault.TheVariants as Gen
use Rattle.npf_ruleset.specs.declared.fault.BuildFault.{BuildFault}
use Rattle.npf_ruleset.specs.declared.fault.BuildFault.TheVariants.{TooLong, NoMemory}
use Rattle.npf_ruleset.specs.declared.place.RulePlace.{RulePlace}
use Rattle.npf_ruleset.specs.Place.{placed_at}

-- the rule stands at the place
abbrev pub StandsAt : List Group → PlacedRule → RulePlace → Type 0
StandsAt groups placed place = placed_at groups place ≡ Some placed

-- the places of all rules, in the order of inspection
abbrev pub ArePlacesOf : List Group → List RulePlace → Type 0
ArePlacesOf groups places = AllZip (StandsAt groups) (all_rules groups) places

-- the compiler's fault at a rule, as the fault of all
abbrev pub fault_there : ℕ → GenFault → BuildFault
fault_there place (Gen.TooLong weight) = TooLong place weight
fault_there place Gen.NoMemory = NoMemory

-- the rules of the group at a place, counted from 0
abbrev pub rules_in_group : Option Group → List PlacedRule
rules_in_group None = []
rules_in_group (Some group) = rules_of group

-- as many places of an item's rules, from the first one on
abbrev pub places_from : RulePlace → ℕ → List RulePlace
places_from first zero = []
places_from first (suc n) = places_from first n ++ (record first { number = n }) ∷ []

-- the places of these rules were laid out behind those that were there
pub record AddsPlaces (groups : List Group) (rules : List PlacedRule) (old new : List RulePlace) : Type 0 where
  pub added : List RulePlace
  pub are : new ≡ old ++ added
  pub each : AllZip (StandsAt groups) rules added
