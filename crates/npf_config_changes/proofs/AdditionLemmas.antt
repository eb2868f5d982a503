-- A rule that is added: what it means can be compiled, and the limits are kept or passed.
use Rattle.std.proofs.Common.{ap, ◌≡◌, ◌≤◌, ◌<◌, ◌+◌, ℕ, Bool, true, false, Result, Ok, Err, List, [], ◌∷◌, ◌++◌, All, length, refl, sym, subst, arith}
use Rattle.std.{specs.{Prelude.if◌then◌else◌, Result.{IfErr, IfOk}}, proofs.lemmas.List.{length-map, Elements.{All-map, All-weaker}}}
use Rattle.npf_types.specs.declared.{limits.TheConstants.{MAX_INSTRUCTIONS, MAX_LIST_ELEMENTS, MAX_RULES, MAX_RULE_WEIGHT}, name.Name.Name, span.Span.Span}
use Rattle.npf_types.specs.{Name.name_bytes, Stages.{goes_on, stops}}
use Rattle.npf_faults.specs.declared.fault.Excess.TheVariants.{Rules, Elements, Weight, Instructions}
use Rattle.npf_syntax.specs.declared.rule.RuleTree.{RuleTree}
use Rattle.npf_model.specs.declared.{group.{Group.Group, Item.{Item, TheVariants.{One, Dynamic}}}, iface.Iface.Iface, model.Model.Model, rule.Rule.Rule}
use Rattle.npf_model.specs.{declared.table.TableDecl.TableDecl, Verdict.{PlacedRule, all_rules}}
use Rattle.npf_bpf.specs.declared.insn.Insn.{Insn}
use Rattle.npf_bpfgen.specs.{Condition.HasTableNumbers, RuleWeight.{HasShortLists, weight_of}}
use Rattle.npf_expand_values.specs.{Source.declared_of, Variable.env_of}
use Rattle.npf_check.specs.{LoneRule.{unknown_applied, unknown_in_where}, Unbuilt.unbuilt_in_rule, WrittenRule.faults_of_rule}
use Rattle.npf_ruleset.specs.{declared.config.Config.Config, Flat.{IsCompiled, instructions, instructions_of}, Refusal.AreProgramsOf}
use Rattle.npf_ruleset.proofs.CompileLemmas.{instructions_counted}
use Rattle.npf_config.{specs.Loaded.{HasNextIds, IsNextWithin}, proofs.TableNameLemmas.{env_defined, rule_numbers}}
use Rattle.npf_config_changes.specs.{declared.fault.ChangeFault.ChangeFault, Additions.{KeepsCounts, KeepsLimits, MeansRule, meant}, Elements.model_elements}
use Rattle.npf_config_changes.specs.{Kept.Serves, Rulesets.{are_one_name, group_with_ruleset, item_with_ruleset, model_with_ruleset, with_rule_added}}
use Rattle.npf_config_changes.{specs.Told.{EndsUnlessMemory, too_many}, proofs.AskLemmas.{keeps_limit, passes_limit}}
use Rattle.npf_config_changes.proofs.LoneLemmas.{front, is_among, where_named}

-- the tables of a rule without faults are the configuration's
pub rule_tables : (config : Config) → (ifaces : List Iface) (tree : RuleTree) (rule : Rule) → MeansRule ifaces config.model tree (Ok rule) → HasTableNumbers rule
rule_tables config ifaces tree rule (meant means clean) =
    let names = (declared_of config.model).tables in
    let len = length-map config.model.tables (λ (table : TableDecl). name_bytes table.name) in
    let most = config.declared.few in
    let few_names : length names ≤ 64 = omega arith in
    let tables = unknown_in_where tree.filter.ends rule in
    let procedures = unknown_applied tree.apply rule.procedure in
    let of_rule = faults_of_rule tree.span rule in
    let built = front (tables ++ procedures ++ of_rule) (unbuilt_in_rule tree) clean in
    let known = front tables procedures (front (tables ++ procedures) of_rule built) in
    let none = where_named names ifaces tree.filter.ends rule (ap (λ one. one.from) means.meant) (ap (λ one. one.to) means.meant) known in
    subst HasTableNumbers (sym means.meant)
    (rule_numbers names (is_among names) (λ text. refl) few_names ifaces (env_of ifaces []) (env_defined names (is_among names) (λ text. refl) few_names ifaces [] tt)
    (declared_of config.model) refl tree none)

-- its program serves it wherever it stands
pub serves_as : (rule : Rule) (program : List Insn) → IsCompiled rule program → weight_of rule ≤ MAX_RULE_WEIGHT → HasShortLists rule → HasTableNumbers rule
    → (placed : PlacedRule) → placed.rule ≡ rule → Serves placed program
serves_as rule program compiled light lists tables placed same = record {
  compiled = subst (λ (one : Rule). IsCompiled one program) (sym same) compiled;
  light = subst (λ (one : Rule). weight_of one ≤ MAX_RULE_WEIGHT) (sym same) light;
  compilable = record { lists = subst HasShortLists (sym same) lists; tables = subst HasTableNumbers (sym same) tables };
}

-- the next number of its ruleset is one more
module _ (rule : Rule) (name : Name) (most : ℕ) where
  next_more : (item : Item) → IsNextWithin most item → IsNextWithin (most + 1) (item_with_ruleset name (with_rule_added rule) item)
  next_more (One other) within = tt
  next_more (Dynamic own dir on next_id rules) within = chosen (are_one_name own name)
    where
      chosen : (same : Bool) → IsNextWithin (most + 1) (if same then Dynamic own dir on (next_id + 1) (rules ++ (next_id, rule) ∷ []) else Dynamic own dir on next_id rules)
      chosen true = omega (arith, within)
      chosen false = omega (arith, within)

  abbrev GroupWithin : ℕ → Group → Type 0
  GroupWithin bound group = All (IsNextWithin bound) group.items

  pub added_ids : (model : Model) → HasNextIds most model → HasNextIds (most + 1) (model_with_ruleset name (with_rule_added rule) model)
  added_ids model within =
      All-map (GroupWithin (most + 1)) (group_with_ruleset name (with_rule_added rule)) model.groups
      (All-weaker (GroupWithin most) (λ (group : Group). GroupWithin (most + 1) (group_with_ruleset name (with_rule_added rule) group)) (λ (group : Group) items.
      All-map (IsNextWithin (most + 1)) (item_with_ruleset name (with_rule_added rule)) group.items
      (All-weaker (IsNextWithin most) (λ (item : Item). IsNextWithin (most + 1) (item_with_ruleset name (with_rule_added rule) item)) next_more group.items items)) model.groups within)

-- the limits of all rules together
module _ (span : Span) (next : Model) where
  pub rules_over : MAX_RULES < length (all_rules next.groups) → EndsUnlessMemory (KeepsCounts span next) (too_many span Rules (MAX_RULES + 1))
  rules_over over _ = stops (passes_limit _ MAX_RULES _ over)

  module _ (rules : length (all_rules next.groups) ≤ MAX_RULES) where
    pub elements_over : MAX_LIST_ELEMENTS < model_elements next → EndsUnlessMemory (KeepsCounts span next) (too_many span Elements (MAX_LIST_ELEMENTS + 1))
    elements_over over _ = goes_on (keeps_limit _ MAX_RULES _ rules) (stops (passes_limit _ MAX_LIST_ELEMENTS _ over))

    module _ (elements : model_elements next ≤ MAX_LIST_ELEMENTS) (programs : List (List Insn)) (are : AreProgramsOf (all_rules next.groups) programs) where
      count_is : instructions programs ≡ instructions_of (all_rules next.groups)
      count_is = instructions_counted (all_rules next.groups) programs are

      pub instructions_over : MAX_INSTRUCTIONS < instructions programs → EndsUnlessMemory (KeepsCounts span next) (too_many span Instructions (instructions programs))
      instructions_over over =
          subst (λ (n : ℕ). EndsUnlessMemory (KeepsCounts span next) (too_many span Instructions n)) (sym count_is)
          (λ _. goes_on (keeps_limit _ MAX_RULES _ rules) (goes_on (keeps_limit _ MAX_LIST_ELEMENTS _ elements)
          (passes_limit _ MAX_INSTRUCTIONS _ (omega (arith, count_is, over)))))

      pub counts_kept : instructions programs ≤ MAX_INSTRUCTIONS → KeepsCounts span next (Ok tt)
      counts_kept short =
          goes_on (keeps_limit _ MAX_RULES _ rules) (goes_on (keeps_limit _ MAX_LIST_ELEMENTS _ elements)
          (keeps_limit _ MAX_INSTRUCTIONS _ (omega (arith, count_is, short))))

  -- and the weight of the rule before them
  pub too_heavy : (rule : Rule) → MAX_RULE_WEIGHT < weight_of rule → EndsUnlessMemory (KeepsLimits span rule next) (too_many span Weight (weight_of rule))
  too_heavy rule over _ = stops (passes_limit _ MAX_RULE_WEIGHT _ over)

  pub light_then : (rule : Rule) → weight_of rule ≤ MAX_RULE_WEIGHT → (fault : ChangeFault) → EndsUnlessMemory (KeepsCounts span next) fault → EndsUnlessMemory (KeepsLimits span rule next) fault
  light_then rule light fault ends other = goes_on (keeps_limit _ MAX_RULE_WEIGHT _ light) (ends other)

  pub limits_kept : (rule : Rule) → weight_of rule ≤ MAX_RULE_WEIGHT → KeepsCounts span next (Ok tt) → KeepsLimits span rule next (Ok tt)
  limits_kept rule light counts = goes_on (keeps_limit _ MAX_RULE_WEIGHT _ light) counts

-- what holds of a light rule's configuration holds with its weight
module _ (span : Span) (rule : Rule) (light : weight_of rule ≤ MAX_RULE_WEIGHT) where
  pub light_ok : (result : Result Config ChangeFault) → IfOk result (λ next. KeepsCounts span next.model (Ok tt)) → IfOk result (λ next. KeepsLimits span rule next.model (Ok tt))
  light_ok (Ok next) counts = limits_kept span next.model rule light counts
  light_ok (Err fault) counts = tt

  pub light_err : (next : Model) (result : Result Config ChangeFault) → IfErr result (EndsUnlessMemory (KeepsCounts span next)) → IfErr result (EndsUnlessMemory (KeepsLimits span rule next))
  light_err next (Ok config) ends = tt
  light_err next (Err fault) ends = light_then span next rule light fault ends
