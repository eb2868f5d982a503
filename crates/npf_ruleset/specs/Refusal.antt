-- Which models are laid out, and for what one is refused.
use Rattle.std.specs.Prelude.{◌≡◌, ℕ, ◌≤◌, ◌<◌, List, ◌∷◌, ◌++◌, length, All}
use Rattle.std.specs.List.{AllZip}
use Rattle.std.specs.declared.sync.Arc.{Arc}
use Rattle.npf_types.specs.declared.limits.TheConstants.{MAX_INSTRUCTIONS, MAX_MAPS, MAX_RULES, MAX_RULE_WEIGHT, MAX_TABLES}
use Rattle.npf_model.specs.declared.model.Model.{Model}
use Rattle.npf_model.specs.Verdict.{PlacedRule, all_rules}
use Rattle.npf_bpf.specs.declared.insn.Insn.{Insn}
use Rattle.npf_table.specs.declared.table.Table.{Table}
use Rattle.npf_bpfgen.specs.Condition.{HasTableNumbers}
use Rattle.npf_bpfgen.specs.RuleWeight.{HasShortLists, weight_of}
use Rattle.npf_ruleset.specs.declared.fault.BuildFault.{BuildFault}
use Rattle.npf_ruleset.specs.declared.fault.BuildFault.TheVariants.{TooLong, TooMuch, NoMemory}
use Rattle.npf_ruleset.specs.Flat.{IsCompiled, instructions, instructions_of}

-- a rule that the compiler takes
pub record IsCompilable (placed : PlacedRule) : Type 0 where
  pub lists : HasShortLists placed.rule
  pub tables : HasTableNumbers placed.rule

pub record IsBuildable (model : Model) : Type 0 where
  pub rules : length (all_rules model.groups) ≤ MAX_RULES
  pub maps : length model.maps ≤ MAX_MAPS
  pub compilable : All IsCompilable (all_rules model.groups)

-- as many tables as the model declares, and few
pub record HasTables {Z : Type 0} (model : Model) (tables : List (Arc Table Z)) : Type 0 where
  pub declared : length tables ≡ length model.tables
  pub few : length model.tables ≤ MAX_TABLES

abbrev pub IsLight : PlacedRule → Type 0
IsLight placed = weight_of placed.rule ≤ MAX_RULE_WEIGHT

-- of all rules the one at this place is the first that is too heavy, and has this weight
pub record IsFirstHeavy (rules : List PlacedRule) (place weight : ℕ) : Type 0 where
  pub before : List PlacedRule
  pub heavy : PlacedRule
  pub behind : List PlacedRule
  pub are : rules ≡ before ++ heavy ∷ behind
  pub at : place ≡ length before
  pub light : All IsLight before
  pub weighs : weight ≡ weight_of heavy.rule
  pub over : MAX_RULE_WEIGHT < weight

-- each rule has its program, and no rule is too heavy
pub record AreProgramsOf (rules : List PlacedRule) (programs : List (List Insn)) : Type 0 where
  pub each : AllZip (λ placed. IsCompiled placed.rule) rules programs
  pub light : All IsLight rules

pub record IsWithinLimits (model : Model) (programs : List (List Insn)) : Type 0 where
  pub compiled : AreProgramsOf (all_rules model.groups) programs
  pub few : instructions programs ≤ MAX_INSTRUCTIONS

-- no rule is too heavy, but all programs together have so many instructions
pub record IsTooMuch (rules : List PlacedRule) (count : ℕ) : Type 0 where
  pub light : All IsLight rules
  pub counted : count ≡ instructions_of rules
  pub over : MAX_INSTRUCTIONS < count

-- why a model is refused for its rules; want of memory says nothing of it
abbrev pub RefusesAllRules : List PlacedRule → BuildFault → Type 0
RefusesAllRules rules (TooLong place weight) = IsFirstHeavy rules place weight
RefusesAllRules rules (TooMuch count) = IsTooMuch rules count
RefusesAllRules rules NoMemory = Unit {0}

abbrev pub RefusesModel : Model → BuildFault → Type 0
RefusesModel model fault = RefusesAllRules (all_rules model.groups) fault
