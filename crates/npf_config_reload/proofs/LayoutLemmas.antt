-- What is laid out is within the limits of all rules together, or passes one.
use Rattle.std.{proofs.Common.{◌≡◌, ◌≤◌, ◌<◌, ◌+◌, ℕ, Err, List, ◌∷◌, All, get_or, length, map, refl, sym, ap, subst, ◌∙◌, arith}, specs.Arc.arc_value}
use Rattle.std.{specs.{Global.Global, declared.sync.Arc.Arc}, proofs.lemmas.List.{get_or_at, length-append, length-map}}
use Rattle.npf_types.specs.declared.{limits.TheConstants.{MAX_INSTRUCTIONS, MAX_LIST_ELEMENTS, MAX_RULES, MAX_TABLES}, span.Span.Span}
use Rattle.npf_types.specs.Stages.{goes_on, stops}
use Rattle.npf_faults.specs.declared.fault.{Excess.TheVariants.{Rules, Elements, Instructions}, Fault.TheVariants.TooMany}
use Rattle.npf_model.specs.{declared.model.Model.Model, Verdict.{PlacedRule, all_rules}}
use Rattle.npf_table.specs.declared.table.Table.{Table}
use Rattle.npf_ruleset.specs.{declared.config.Config.Config, Refusal.{HasTables, IsFirstHeavy, IsLight, IsTooMuch}}
use Rattle.npf_config_changes.specs.{declared.fault.ChangeFault.TheVariants.Conf, Additions.KeepsCounts, Elements.model_elements}
use Rattle.npf_config_changes.proofs.AskLemmas.{keeps_limit, passes_limit}

module _ (end : Span) (next : Model) where
  pub rules_over : MAX_RULES < length (all_rules next.groups) → KeepsCounts end next (Err (Conf (record { span = end; fault = TooMany Rules (MAX_RULES + 1) })))
  rules_over over = stops (passes_limit _ MAX_RULES _ over)

  module _ (rules : length (all_rules next.groups) ≤ MAX_RULES) where
    pub elements_over : MAX_LIST_ELEMENTS < model_elements next → KeepsCounts end next (Err (Conf (record { span = end; fault = TooMany Elements (MAX_LIST_ELEMENTS + 1) })))
    elements_over over = goes_on (keeps_limit _ MAX_RULES _ rules) (stops (passes_limit _ MAX_LIST_ELEMENTS _ over))

    pub instructions_over : model_elements next ≤ MAX_LIST_ELEMENTS → (count : ℕ) → IsTooMuch (all_rules next.groups) count →
        KeepsCounts end next (Err (Conf (record { span = end; fault = TooMany Instructions count })))
    instructions_over elements count much =
        subst (λ (n : ℕ). KeepsCounts end next (Err (Conf (record { span = end; fault = TooMany Instructions n })))) (sym much.counted)
        (goes_on (keeps_limit _ MAX_RULES _ rules) (goes_on (keeps_limit _ MAX_LIST_ELEMENTS _ elements) (passes_limit _ MAX_INSTRUCTIONS _ (omega (arith, much.counted, much.over)))))

-- where each rule is light none is the first that isn't
pub none_heavy : (rules : List PlacedRule) (place weight : ℕ) → All IsLight rules → IsFirstHeavy rules place weight → ⊥
none_heavy rules place weight light first =
    let many = ap length first.are ∙ length-append first.before (first.heavy ∷ first.behind) in
    let here = light (length first.before) first.heavy (omega (arith, many)) in
    let at : get_or rules (length first.before) first.heavy ≡ first.heavy =
    ap (λ (all : List PlacedRule). get_or all (length first.before) first.heavy) first.are ∙ get_or_at first.before first.heavy first.behind first.heavy (length first.before) refl in
    let bound = subst IsLight at here in
    let weighs = first.weighs in
    let over = first.over in
    let wrong : ⊥ = omega arith in wrong

-- tables that are shared are as many
pub shares_tables : (own : Config) (model : Model) → model.tables ≡ own.model.tables → (tables : List (Arc Table Global)) →
    map arc_value tables ≡ map arc_value own.tables.items → HasTables model tables
shares_tables own model same tables shared =
    record {
      declared = sym (length-map tables arc_value) ∙ ap length shared ∙ length-map own.tables.items arc_value ∙ own.declared.declared ∙ ap length (sym same);
      few = subst (λ decls. length decls ≤ MAX_TABLES) (sym same) own.declared.few;
    }
