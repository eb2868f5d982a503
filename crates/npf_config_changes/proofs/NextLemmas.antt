-- The next configuration: the programs that serve its rules, what it keeps, and what of the last one stays.
use Rattle.std.proofs.Common.{◌≡◌, ◌≤◌, ℕ, suc, Bool, true, false, Result, Ok, Err, List, [], ◌∷◌, All, length, map, refl, sym, ap, subst, ◌∙◌, arith}
use Rattle.std.{proofs.lemmas.Slice.Zip.AllZip-long, specs.{List.AllZip, Prelude.if◌then◌else◌, Arc.arc_value, Global.{Global, Vec}, Result.IfOk}}
use Rattle.std.{specs.declared.sync.Arc.Arc, proofs.lemmas.List.Elements.{All-cons, All-map, All-weaker}}
use Rattle.npf_types.specs.declared.{limits.TheConstants.{MAX_INSTRUCTIONS, MAX_MAPS, MAX_RULES}, name.Name.Name}
use Rattle.npf_model.specs.{declared.{group.{Group.Group, Item.{Item, TheVariants.{One, Dynamic}}}, model.Model.Model}, Verdict.{PlacedRule, all_rules}}
use Rattle.npf_table.specs.{declared.table.Table.Table, Table.{kind_of, prefixes}}
use Rattle.npf_bpf.specs.declared.insn.Insn.{Insn}
use Rattle.npf_ruleset.specs.{declared.config.Config.Config, Configuration.configuration, Flat.{IsCompiled, instructions, programs_of}}
use Rattle.npf_ruleset.specs.{Refusal.{AreProgramsOf, IsBuildable, IsCompilable, IsLight, IsWithinLimits}, Tables.entries}
use Rattle.npf_config.specs.{Loaded.{HasNextIds, IsLoaded, IsNextWithin}, Tables.declared_kinds}
use Rattle.npf_config_changes.specs.declared.change.RulesChange.{RulesChange, TheVariants.{Added, Removed, Flushed}}
use Rattle.npf_config_changes.specs.Kept.{AddsNone, HasNumbersLeft, IsServed, Keeps, Serves, TakesOut, ruleset_change}
use Rattle.npf_config_changes.{specs.Rulesets.{are_one_name, group_with_ruleset, item_with_ruleset, model_with_ruleset}, proofs.EntryLemmas.entries_of_values}

pub no_more : (change : RulesChange) → TakesOut change → (before after : ℕ) → AddsNone change before after → after ≤ before
no_more (Added rule program) takes before after fewer = absurd takes
no_more (Removed id) takes before after fewer = fewer
no_more Flushed takes before after fewer = fewer

room : (change : RulesChange) → TakesOut change → (item : Item) → HasNumbersLeft change item
room (Added rule program) takes item = absurd takes
room (Removed id) takes item = tt
room Flushed takes item = tt

-- what takes rules out needs no room for numbers
pub all_room : (change : RulesChange) → TakesOut change → (groups : List Group) → All (λ (group : Group). All (HasNumbersLeft change) group.items) groups
all_room change takes groups = λ k d lt. λ n e below. room change takes _

pub served_none : (change : RulesChange) → TakesOut change → IsServed change
served_none (Added rule program) takes = absurd takes
served_none (Removed id) takes = tt
served_none Flushed takes = tt

-- each program that serves
serving : (rules : List PlacedRule) (programs : List (List Insn)) → AllZip Serves rules programs → AllZip (λ placed. IsCompiled placed.rule) rules programs
serving [] [] serve = tt
serving (placed ∷ rules) (program ∷ programs) serve = (serve.0.compiled, serving rules programs serve.1)
serving [] (program ∷ programs) serve = absurd serve
serving (placed ∷ rules) [] serve = absurd serve

all_serving : (P : PlacedRule → Type 0) → ((placed : PlacedRule) (program : List Insn) → Serves placed program → P placed) → (rules : List PlacedRule) (programs : List (List Insn))
    → AllZip Serves rules programs → All P rules
all_serving P holds [] programs serve = λ k d below. elim below [ ]
all_serving P holds (placed ∷ rules) [] serve = absurd serve
all_serving P holds (placed ∷ rules) (program ∷ programs) serve = All-cons P placed rules (holds placed program serve.0) (all_serving P holds rules programs serve.1)

-- the programs of rules serve them, where each can be compiled and isn't too heavy
each_serves : (rules : List PlacedRule) (programs : List (List Insn)) → AllZip (λ placed. IsCompiled placed.rule) rules programs → All IsLight rules → All IsCompilable rules
    → AllZip Serves rules programs
each_serves [] [] are light compilable = tt
each_serves (placed ∷ rules) (program ∷ programs) are light compilable = (
  record { compiled = are.0; light = light 0 placed (omega arith); compilable = compilable 0 placed (omega arith) },
  each_serves rules programs are.1 (λ k d lt. light (suc k) d (omega (arith, lt))) (λ k d lt. compilable (suc k) d (omega (arith, lt))),
)
each_serves [] (program ∷ programs) are light compilable = absurd are
each_serves (placed ∷ rules) [] are light compilable = absurd are

module _ (rules : List PlacedRule) (programs : List (List Insn)) where
  pub are_programs : AllZip Serves rules programs → AreProgramsOf rules programs
  are_programs serve = record {
    each = serving rules programs serve;
    light = all_serving IsLight (λ placed program serves. serves.light) rules programs serve;
  }

  pub are_compilable : AllZip Serves rules programs → All IsCompilable rules
  are_compilable serve = all_serving IsCompilable (λ placed program serves. serves.compilable) rules programs serve

  pub all_serve : AreProgramsOf rules programs → All IsCompilable rules → AllZip Serves rules programs
  all_serve are compilable = each_serves rules programs are.each are.light compilable

-- the numbers of the next rules stay
module _ (change : RulesChange) (takes : TakesOut change) (name : Name) (most : ℕ) where
  same_next : (item : Item) → IsNextWithin most item → IsNextWithin most (item_with_ruleset name (ruleset_change change) item)
  same_next (One rule) within = tt
  same_next (Dynamic own dir on next_id rules) within = chosen change takes (are_one_name own name)
    where
      chosen : (change : RulesChange) → TakesOut change → (same : Bool)
          → IsNextWithin most (if same then Dynamic own dir on (ruleset_change change (record { next_id = next_id; rules = rules })).next_id
          (ruleset_change change (record { next_id = next_id; rules = rules })).rules
          else Dynamic own dir on next_id rules)
      chosen (Added rule program) takes same = absurd takes
      chosen (Removed id) takes true = within
      chosen (Removed id) takes false = within
      chosen Flushed takes true = within
      chosen Flushed takes false = within

  abbrev GroupWithin : Group → Type 0
  GroupWithin group = All (IsNextWithin most) group.items

  pub same_ids : (model : Model) → HasNextIds most model → HasNextIds most (model_with_ruleset name (ruleset_change change) model)
  same_ids model within =
      All-map GroupWithin (group_with_ruleset name (ruleset_change change)) model.groups
      (All-weaker GroupWithin (λ (group : Group). GroupWithin (group_with_ruleset name (ruleset_change change) group)) (λ (group : Group) items.
      All-map (IsNextWithin most) (item_with_ruleset name (ruleset_change change)) group.items
      (All-weaker (IsNextWithin most) (λ (item : Item). IsNextWithin most (item_with_ruleset name (ruleset_change change) item)) same_next group.items items)) model.groups within)

-- the programs of a configuration serve its rules
pub old_serve : (config : Config) → AllZip Serves (all_rules config.model.groups) (programs_of config.rules)
old_serve config = all_serve (all_rules config.model.groups) (programs_of config.rules) config.limits.compiled config.buildable.compilable

-- the configuration that has another model with the same tables
module _ (config next : Config) (model : Model) (of_model : next.model ≡ model) (tables : map arc_value next.tables.items ≡ map arc_value config.tables.items) where
  same_entries : entries next.tables.items ≡ entries config.tables.items
  same_entries = entries_of_values next.tables.items ∙ ap (map prefixes) tables ∙ sym (entries_of_values config.tables.items)

  pub next_is : configuration next ≡ record (configuration config) { model = model }
  next_is = rw (of_model, same_entries) refl

  pub next_loaded : model.tables ≡ config.model.tables → IsLoaded config → IsLoaded next
  next_loaded declared loaded = record {
    kinds = ap (map kind_of) tables ∙ loaded.kinds ∙ ap declared_kinds (sym (ap (λ (m : Model). m.tables) of_model ∙ declared));
    few = rw same_entries loaded.few;
  }

-- the programs that are kept, of a model whose rules they serve
module _ (model : Model) (kept : List (List Insn)) (serve : AllZip Serves (all_rules model.groups) kept) where
  pub next_buildable : length (all_rules model.groups) ≤ MAX_RULES → length model.maps ≤ MAX_MAPS → IsBuildable model
  next_buildable rules maps = record { rules = rules; maps = maps; compilable = are_compilable (all_rules model.groups) kept serve }

  pub next_limits : instructions kept ≤ MAX_INSTRUCTIONS → IsWithinLimits model kept
  next_limits few = record { compiled = are_programs (all_rules model.groups) kept serve; few = few }

module _ (config : Config) (change : RulesChange) (rules : List PlacedRule) (kept : List (List Insn)) (keeps : Keeps change rules config.rules [] [] kept) where
  pub kept_serve : AllZip Serves rules kept
  kept_serve = subst (AllZip Serves rules) (sym keeps.are) keeps.each

  -- where nothing is added there are no more rules and instructions
  module _ (takes : TakesOut change) where
    pub no_more_rules : length rules ≤ MAX_RULES
    no_more_rules =
        let fewer = no_more change takes _ _ keeps.fewer in
        let many = AllZip-long Serves rules kept kept_serve in
        let were = config.flat.rule_count in
        let few = config.buildable.rules in
        omega arith

    pub no_more_instructions : instructions kept ≤ MAX_INSTRUCTIONS
    no_more_instructions =
        let shorter = no_more change takes _ _ keeps.shorter in
        let few = config.limits.few in
        omega arith

-- what is said of what is assembled, together
pub assembled : {E : Type 0} (result : Result Config E) (model : Model) (tables : Vec (Arc Table Global)) → IfOk result (λ config. config.model ≡ model)
    → IfOk result (λ config. config.tables ≡ tables) → IfOk result (λ config. (config.model ≡ model) × (config.tables ≡ tables))
assembled (Ok config) model tables of_model with_tables = (of_model, with_tables)
assembled (Err fault) model tables of_model with_tables = tt
