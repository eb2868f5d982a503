-- Groups and rules laid out flat: what a flat rule and a flat group have of those that they stand for.
use Rattle.std.specs.Prelude.{◌≡◌, ℕ, ◌≤◌, Bool, List, length, map, slice_get, Some}
use Rattle.std.specs.List.{list_any, sum_by}
use Rattle.npf_model.specs.declared.group.Group.{Group}
use Rattle.npf_model.specs.declared.group.Item.{Item}
use Rattle.npf_model.specs.declared.group.Item.TheVariants.{One, Dynamic}
use Rattle.npf_model.specs.declared.rule.Rule.{Rule}
use Rattle.npf_model.specs.Verdict.{PlacedRule, all_rules, rules_of}
use Rattle.npf_bpf.specs.declared.insn.Insn.{Insn}
use Rattle.npf_bpf.specs.Validity.{IsValid}
use Rattle.npf_bpfgen.specs.Program.{IsProgramOf}
use Rattle.npf_bpfgen.specs.ProgramLength.{program_length}
use Rattle.npf_bpfgen.specs.RuleWeight.{weight_of}
use Rattle.npf_ruleset.specs.declared.flat.FlatGroup.{FlatGroup}
use Rattle.npf_ruleset.specs.declared.flat.FlatRule.{FlatRule}
use Rattle.npf_ruleset.specs.Binding.{IsBindingOf, IsBoundTo}
use Rattle.npf_ruleset.specs.Place.{placed_at}
use Rattle.npf_ruleset.specs.Row.{IsRowOf}

-- the program is a valid one of the rule, and has as many instructions as the rule's parts ask for, which the rule's weight bounds
pub record IsCompiled (rule : Rule) (program : List Insn) : Type 0 where
  pub value : IsProgramOf rule program
  pub valid : ∥ IsValid program ∥₁
  pub count : length program ≡ program_length rule
  pub size : length program ≤ weight_of rule

-- the flat rule stands for a rule of the groups
pub record IsFlatRule (groups : List Group) (placed : PlacedRule) (flat : FlatRule) : Type 0 where
  pub place : placed_at groups flat.place ≡ Some placed
  pub binding : IsBindingOf placed flat.binding
  pub last : flat.last ≡ placed.rule.last
  pub row : IsRowOf placed.rule flat.row
  pub value : IsProgramOf placed.rule flat.program

-- whether a rule of a ruleset, at an item's place, or of a group is `final`
abbrev pub rules_have_final : List (ℕ × Rule) → Bool
rules_have_final rules = list_any (λ numbered. numbered.1.last) rules

abbrev pub item_has_final : Item → Bool
item_has_final (One rule) = rule.last
item_has_final (Dynamic name dir on next_id rules) = rules_have_final rules

abbrev pub has_final : Group → Bool
has_final group = list_any item_has_final group.items

pub record IsFlatGroup (group : Group) (flat : FlatGroup) : Type 0 where
  pub binding : IsBoundTo group.dir group.on flat.binding
  pub count : flat.count ≡ length (rules_of group)
  pub finals : flat.finals ≡ has_final group

-- the groups and all their rules in the order of inspection are laid out: as many as there are, each at its place
pub record IsFlat (groups : List Group) (flat_groups : List FlatGroup) (flat_rules : List FlatRule) : Type 0 where
  pub group_count : length flat_groups ≡ length groups
  pub each_group : (k : ℕ) (group : Group) (flat : FlatGroup) → slice_get groups k ≡ Some group → slice_get flat_groups k ≡ Some flat → IsFlatGroup group flat
  pub rule_count : length flat_rules ≡ length (all_rules groups)
  pub each_rule : (k : ℕ) (placed : PlacedRule) (flat : FlatRule) → slice_get (all_rules groups) k ≡ Some placed → slice_get flat_rules k ≡ Some flat
      → IsFlatRule groups placed flat

-- the programs, and how many instructions they have together
abbrev pub programs_of : List FlatRule → List (List Insn)
programs_of rules = map (λ rule. rule.program) rules

abbrev pub instructions : List (List Insn) → ℕ
instructions programs = sum_by length programs

-- how many instructions the programs of these rules have together
abbrev pub instructions_of : List PlacedRule → ℕ
instructions_of rules = sum_by (λ placed. program_length placed.rule) rules
