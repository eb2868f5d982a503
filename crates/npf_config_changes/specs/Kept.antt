-- How the programs of a configuration's rules are kept, one part of its rules after another, while the rules of a ruleset change.
use Rattle.std.specs.Prelude.{◌≡◌, ℕ, ◌+◌, ◌≤◌, ⊤, ◌==◌, if◌then◌else◌, List, [], ◌∷◌, ◌++◌, length}
use Rattle.std.specs.List.{AllZip}
use Rattle.npf_model.specs.declared.group.Item.{Item}
use Rattle.npf_model.specs.declared.rule.Rule.{Rule}
use Rattle.npf_model.specs.Verdict.{PlacedRule}
use Rattle.npf_bpf.specs.declared.insn.Insn.{Insn}
use Rattle.npf_ruleset.specs.declared.flat.FlatRule.{FlatRule}
use Rattle.npf_ruleset.specs.Flat.{IsCompiled, instructions, programs_of}
use Rattle.npf_ruleset.specs.Refusal.{IsCompilable, IsLight}
use Rattle.npf_config.specs.Loaded.{IsNextWithin}
use Rattle.npf_config_changes.specs.declared.change.RulesChange.{RulesChange}
use Rattle.npf_config_changes.specs.declared.change.RulesChange.TheVariants.{Added, Removed, Flushed}
use Rattle.npf_config_changes.specs.Rulesets.{Ruleset, with_rule_added, with_rule_removed, with_rules_flushed}

abbrev pub ruleset_change : RulesChange → Ruleset → Ruleset
ruleset_change (Added rule program) = with_rule_added rule.now
ruleset_change (Removed id) = with_rule_removed id
ruleset_change Flushed = with_rules_flushed

-- the numbers of a ruleset go on behind this one
abbrev pub HasNumberLeft : RulesChange → ℕ → Type 0
HasNumberLeft (Added rule program) next_id = next_id ≤ 4294967294
HasNumberLeft _ next_id = ⊤

abbrev pub HasNumbersLeft : RulesChange → Item → Type 0
HasNumbersLeft (Added rule program) item = IsNextWithin 4294967294 item
HasNumbersLeft _ item = ⊤

-- the program is one of the rule, which can be compiled and isn't too heavy
pub record Serves (placed : PlacedRule) (program : List Insn) : Type 0 where
  pub compiled : IsCompiled placed.rule program
  pub light : IsLight placed
  pub compilable : IsCompilable placed

-- and so it is of a rule that is added, wherever it stands
abbrev pub IsServed : RulesChange → Type 0
IsServed (Added rule program) = (placed : PlacedRule) → placed.rule ≡ rule.now → Serves placed program.now
IsServed _ = ⊤

-- nothing is added
abbrev pub TakesOut : RulesChange → Type 0
TakesOut (Added rule program) = ⊥
TakesOut _ = ⊤

-- what is taken out makes nothing more
abbrev pub AddsNone : RulesChange → ℕ → ℕ → Type 0
AddsNone (Added rule program) before after = ⊤
AddsNone _ before after = after ≤ before

-- the programs of a ruleset's rules but for that of this number
abbrev pub other_programs : ℕ → List (ℕ × Rule) → List FlatRule → List (List Insn)
other_programs id [] flats = []
other_programs id (numbered ∷ rules) [] = []
other_programs id (numbered ∷ rules) (flat ∷ flats) =
    if numbered.0 == id then other_programs id rules flats else flat.program ∷ other_programs id rules flats

-- the programs of a ruleset's rules as they are changed
abbrev pub programs_changed : RulesChange → List (ℕ × Rule) → List FlatRule → List (List Insn)
programs_changed (Added rule program) rules flats = programs_of flats ++ program.now ∷ []
programs_changed (Removed id) rules flats = other_programs id rules flats
programs_changed Flushed rules flats = []

-- of the flat rules these are left; the programs of the rules, as they are now, were added for those in front of them
pub record Keeps (change : RulesChange) (rules : List PlacedRule) (flats left : List FlatRule) (old new : List (List Insn)) : Type 0 where
  pub added : List (List Insn)
  pub are : new ≡ old ++ added
  pub each : AllZip Serves rules added
  pub fewer : AddsNone change (length old + length flats) (length new + length left)
  pub shorter : AddsNone change (instructions old + instructions (programs_of flats)) (instructions new + instructions (programs_of left))

-- the flat rules begin with those of these rules
abbrev pub BeginsWithServed : List PlacedRule → List FlatRule → Type 0
BeginsWithServed rules flats = (more : List PlacedRule) × AllZip Serves (rules ++ more) (programs_of flats)

-- and are left behind them
abbrev pub LeavesBehind : List PlacedRule → List FlatRule → List FlatRule → Type 0
LeavesBehind rules flats left = (more : List PlacedRule) → AllZip Serves (rules ++ more) (programs_of flats) → AllZip Serves more (programs_of left)
