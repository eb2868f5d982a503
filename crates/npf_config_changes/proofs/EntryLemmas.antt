-- What a change of one table makes of a configuration.
use Rattle.std.proofs.Common.{◌≡◌, ◌≤◌, ◌<◌, ◌+◌, ℕ, suc, Some, Ok, Err, List, [], ◌∷◌, ◌++◌, length, get_or, map, set, take, drop, slice_get, refl, sym, ap, subst, ◌∙◌, arith}
use Rattle.std.{specs.{Arc.arc_value, Global.Global, Option.option_map, declared.sync.Arc.Arc}, proofs.lemmas.List.{map-set, set-get_or, set_split}}
use Rattle.std.proofs.lemmas.{List.Sums.sum_by-set, Option.{get_or_from_slice_get, slice_get-map, slice_get_read, slice_get_within}}
use Rattle.npf_types.specs.{declared.{limits.TheConstants.MAX_TABLE_ENTRIES, name.Name.Name, prefix.Prefix.Prefix}, Stages.{goes_on, stops}}
use Rattle.npf_model.specs.{declared.{table.Kind.Kind, model.Model.Model}, Configuration.Configuration, Verdict.first_where}
use Rattle.npf_faults.specs.declared.fault.Excess.TheVariants.{Entries}
use Rattle.npf_table.specs.{declared.{table.Table.Table, fault.TableFault.TableFault}, Table.{MayChange, RefusesAddition, RefusesRemoval, kind_of, prefixes}}
use Rattle.npf_table.specs.declared.fault.TableFault.TheVariants as Tables
use Rattle.npf_ruleset.specs.{declared.config.Config.Config, Configuration.configuration, Tables.entries}
use Rattle.npf_config.specs.{Loaded.IsLoaded, Tables.{declared_kinds, entry_count, table_kinds}}
use Rattle.npf_config_changes.specs.Entries.{AddsEntry, GainsEntry, IsTableAt, LosesEntry, RemovesEntry, TableAt, absent, allowed, beginning, found, present, read_only, with_entries, wrong_kind}
use Rattle.npf_config_changes.{specs.Rulesets.are_one_name, proofs.AskLemmas.{keeps_limit, passes_limit}}
use Rattle.npf_config_changes.specs.Told.{EndsUnlessMemory, told_count, told_of_table, too_many}

module _ {Z : Type 0} where
  -- what tables show, by the values that they share
  pub entries_of_values : (tables : List (Arc Table Z)) → entries tables ≡ map prefixes (map arc_value tables)
  entries_of_values [] = refl
  entries_of_values (table ∷ tables) = ap (λ rest. prefixes (arc_value table) ∷ rest) (entries_of_values tables)

-- the entries of the table at a place are changed
module _ (all : List (List Prefix)) (at : ℕ) (was new : List Prefix) (there : slice_get all at ≡ Some was) where
  pub split_there : set all at new ≡ take at all ++ new ∷ drop (at + 1) all
  split_there =
      let next : suc at ≡ at + 1 = omega arith in
      set_split all at new (slice_get_within all at was there) ∙ ap (λ k. take at all ++ new ∷ drop k all) next

  pub count_there : entry_count (take at all ++ new ∷ drop (at + 1) all) + length was ≡ entry_count all + length new
  count_there =
      ap (λ changed. entry_count changed + length was) (sym split_there)
      ∙ ap (λ (one : List Prefix). entry_count (set all at new) + length one) (sym (get_or_from_slice_get all at was was there))
      ∙ sum_by-set length all at new was (slice_get_within all at was there)

pub had_entries : (config : Config) (at : ℕ) (was : Arc Table Global) → slice_get config.tables.items at ≡ Some was → slice_get (entries config.tables.items) at ≡ Some (prefixes (arc_value was))
had_entries config at was there = slice_get-map (λ table. prefixes (arc_value table)) config.tables.items at ∙ ap (option_map (λ table. prefixes (arc_value table))) there

pub had_kind : (config : Config) (at : ℕ) (was : Arc Table Global) → slice_get config.tables.items at ≡ Some was → slice_get (table_kinds config.tables.items) at ≡ Some (kind_of (arc_value was))
had_kind config at was there =
    slice_get-map kind_of (map arc_value config.tables.items) at ∙ ap (option_map kind_of) (slice_get-map arc_value config.tables.items at ∙ ap (option_map arc_value) there)

-- the table at a place is changed
module _ (config next : Config) (at : ℕ) (was : Arc Table Global) (new : Table) (there : slice_get config.tables.items at ≡ Some was)
    (of_model : next.model ≡ config.model) (tables : map arc_value next.tables.items ≡ set (map arc_value config.tables.items) at new) where
  pub next_entries : entries next.tables.items ≡ set (entries config.tables.items) at (prefixes new)
  next_entries =
      entries_of_values next.tables.items ∙ ap (map prefixes) tables ∙ map-set prefixes (map arc_value config.tables.items) at new
      ∙ sym (ap (λ all. set all at (prefixes new)) (entries_of_values config.tables.items))

  pub next_split : entries next.tables.items ≡ take at (entries config.tables.items) ++ prefixes new ∷ drop (at + 1) (entries config.tables.items)
  next_split = next_entries ∙ split_there (entries config.tables.items) at (prefixes (arc_value was)) (prefixes new) (had_entries config at was there)

  -- as a configuration
  pub next_is : configuration next ≡ with_entries at (prefixes new) (configuration config)
  next_is = rw (of_model, next_split) refl

  pub next_count : entry_count (entries next.tables.items) + length (prefixes (arc_value was)) ≡ entry_count (entries config.tables.items) + length (prefixes new)
  next_count =
      ap (λ all. entry_count all + length (prefixes (arc_value was))) next_split
      ∙ count_there (entries config.tables.items) at (prefixes (arc_value was)) (prefixes new) (had_entries config at was there)

  pub next_loaded : IsLoaded config → kind_of new ≡ kind_of (arc_value was) → entry_count (entries next.tables.items) ≤ MAX_TABLE_ENTRIES → IsLoaded next
  next_loaded loaded same_kind few =
      let kinds = table_kinds config.tables.items in
      let old_kind : get_or kinds at (kind_of new) ≡ kind_of (arc_value was) = get_or_from_slice_get kinds at (kind_of (arc_value was)) (kind_of new) (had_kind config at was there) in
      let same_kinds : table_kinds next.tables.items ≡ kinds =
      ap (map kind_of) tables ∙ map-set kind_of (map arc_value config.tables.items) at new ∙ ap (set kinds at) (same_kind ∙ sym old_kind) ∙ set-get_or kinds at (kind_of new) in
      record { kinds = same_kinds ∙ loaded.kinds ∙ ap declared_kinds (ap (λ (m : Model). m.tables) (sym of_model)); few = few }

-- a declaration's place is that of a table
pub place_within : (config : Config) (at : ℕ) → at < length config.model.tables → at < length config.tables.items
place_within config at below = let len = config.declared.declared in omega (arith, len, below)

-- the table at the place of its declaration
pub there_at : (config : Config) (at : ℕ) → at < length config.model.tables → (tables : List (Arc Table Global)) → tables ≡ config.tables.items
    → (was : Arc Table Global) → was ≡ get_or tables at was → slice_get config.tables.items at ≡ Some was
there_at config at below tables are was is =
    let within : at < length config.tables.items = place_within config at below in
    slice_get_read config.tables.items (length config.tables.items) at was refl within (subst (λ all. was ≡ get_or all at was) are is)

-- what a list of tables has at a place
pub entry_at : {Z : Type 0} (tables : List (Arc Table Z)) (i : ℕ) (table : Arc Table Z) → i < length tables → table ≡ get_or tables i table
    → get_or (entries tables) i (prefixes (arc_value table)) ≡ prefixes (arc_value table)
entry_at tables i table below is =
    get_or_from_slice_get (entries tables) i (prefixes (arc_value table)) (prefixes (arc_value table))
    (slice_get-map (λ one. prefixes (arc_value one)) tables i ∙ ap (option_map (λ one. prefixes (arc_value one))) (slice_get_read tables (length tables) i table refl below is))

-- the table that a name names
module _ (config : Config) (name : Name) (at : ℕ) (was : Arc Table Global) (there : slice_get config.tables.items at ≡ Some was)
    (first : first_where (λ other. are_one_name other.name name) 0 config.model.tables ≡ Some at) where
  abbrev pub table_at : TableAt
  table_at = record { place = at; kind = kind_of (arc_value was); entries = prefixes (arc_value was) }

  abbrev pub kinds : List Kind
  kinds = table_kinds config.tables.items

  pub is_table_at : IsTableAt name kinds (configuration config) table_at
  is_table_at = record { first = first; kind = had_kind config at was there; entries = had_entries config at was there }

  module _ (prefix : Prefix) where
    pub addition_refused : (fault : TableFault) → RefusesAddition (arc_value was) prefix fault → EndsUnlessMemory (AddsEntry kinds (configuration config) name prefix) (told_of_table fault)
    addition_refused Tables.ReadOnly refused = λ _. goes_on (found is_table_at) (stops (read_only refused))
    addition_refused Tables.WrongKind refused = λ _. goes_on (found is_table_at) (stops (wrong_kind refused.0 refused.1))
    addition_refused Tables.Present refused = λ _. goes_on (found is_table_at) (goes_on (allowed refused.0) (stops (present refused.1)))
    addition_refused Tables.NoMemory refused = λ other. absurd (other refl)
    addition_refused Tables.Absent refused = absurd refused
    addition_refused (Tables.BadLine line) refused = absurd refused

    pub removal_refused : (fault : TableFault) → RefusesRemoval (arc_value was) prefix fault → EndsUnlessMemory (RemovesEntry kinds (configuration config) name prefix) (told_of_table fault)
    removal_refused Tables.ReadOnly refused = λ _. goes_on (found is_table_at) (stops (read_only refused))
    removal_refused Tables.WrongKind refused = λ _. goes_on (found is_table_at) (stops (wrong_kind refused.0 refused.1))
    removal_refused Tables.Absent refused = λ _. goes_on (found is_table_at) (goes_on (allowed refused.0) (stops (absent refused.1)))
    removal_refused Tables.NoMemory refused = λ other. absurd (other refl)
    removal_refused Tables.Present refused = absurd refused
    removal_refused (Tables.BadLine line) refused = absurd refused

    module _ (new : Table) (may : MayChange (kind_of (arc_value was)) prefix) where
      -- the prefix is added, and the entries are few or too many
      pub adds : GainsEntry (prefixes (arc_value was)) prefix (Ok (prefixes new)) → (next : Config) → configuration next ≡ with_entries at (prefixes new) (configuration config)
          → entry_count (entries next.tables.items) ≤ MAX_TABLE_ENTRIES → AddsEntry kinds (configuration config) name prefix (Ok (configuration next))
      adds gains next is few =
          let kept = subst (λ (config : Configuration). entry_count config.tables ≤ MAX_TABLE_ENTRIES) is few in
          goes_on (found is_table_at) (goes_on (allowed may) (goes_on gains (goes_on (keeps_limit _ MAX_TABLE_ENTRIES _ kept) (ap Ok is))))

      pub passes : GainsEntry (prefixes (arc_value was)) prefix (Ok (prefixes new)) → (count : ℕ)
          → told_count (entry_count (with_entries at (prefixes new) (configuration config)).tables) ≡ count → MAX_TABLE_ENTRIES < count
          → AddsEntry kinds (configuration config) name prefix (Err (too_many beginning Entries count))
      passes gains count counted over =
          let many : MAX_TABLE_ENTRIES < entry_count (with_entries at (prefixes new) (configuration config)).tables = omega (arith, counted, over) in
          subst (λ n. AddsEntry kinds (configuration config) name prefix (Err (too_many beginning Entries n))) counted
          (goes_on (found is_table_at) (goes_on (allowed may) (goes_on gains (stops (passes_limit _ MAX_TABLE_ENTRIES _ many)))))

      pub removes : LosesEntry (prefixes (arc_value was)) prefix (Ok (prefixes new)) → (next : Config) → configuration next ≡ with_entries at (prefixes new) (configuration config)
          → RemovesEntry kinds (configuration config) name prefix (Ok (configuration next))
      removes loses next is = goes_on (found is_table_at) (goes_on (allowed may) (goes_on loses (ap Ok is)))
