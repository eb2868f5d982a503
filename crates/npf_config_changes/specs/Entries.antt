-- The changes of a table's entries while a run goes on, each to the next configuration or to why it is refused. All else of the
-- configuration stays.
use Rattle.std.specs.Prelude.{◌≡◌, ◌≢◌, ℕ, ◌+◌, nat_le, Some, None, Result, Ok, Err, List, ◌∷◌, ◌++◌, length, take, drop, slice_get, Contains}
use Rattle.std.specs.List.{AllPairs}
use Rattle.npf_types.specs.declared.limits.TheConstants.{MAX_TABLE_ENTRIES}
use Rattle.npf_types.specs.declared.name.Name.{Name}
use Rattle.npf_types.specs.declared.prefix.Prefix.{Prefix}
use Rattle.npf_types.specs.declared.span.Span.{Span}
use Rattle.npf_faults.specs.declared.fault.Excess.TheVariants.{Entries}
use Rattle.npf_types.specs.Stages.{Stage, ◌andthen◌, gives, asks_that}
use Rattle.npf_model.specs.declared.table.Kind.{Kind}
use Rattle.npf_model.specs.declared.table.Kind.TheVariants.{Const, Ipset}
use Rattle.npf_model.specs.Configuration.{Configuration}
use Rattle.npf_model.specs.Verdict.{first_where}
use Rattle.npf_lpm.specs.Lpm.{Gains, Loses}
use Rattle.npf_table.specs.declared.fault.TableFault.TheVariants as Tables
use Rattle.npf_table.specs.Line.{IsHost}
use Rattle.npf_table.specs.Table.{MayChange}
use Rattle.npf_config.specs.Tables.{entry_count}
use Rattle.npf_config_changes.specs.declared.fault.ChangeFault.{ChangeFault}
use Rattle.npf_config_changes.specs.declared.fault.ChangeFault.TheVariants.{UnknownTable, Table}
use Rattle.npf_config_changes.specs.Rulesets.{are_one_name}
use Rattle.npf_config_changes.specs.Told.{told_count, too_many}

-- a table of a configuration: its place, its kind and its entries
pub record TableAt : Type 0 where
  pub place : ℕ
  pub kind : Kind
  pub entries : List Prefix

-- the table of this name is there; of all tables these are the kinds
pub record IsTableAt (name : Name) (kinds : List Kind) (config : Configuration) (found : TableAt) : Type 0 where
  pub first : first_where (λ other. are_one_name other.name name) 0 config.model.tables ≡ Some found.place
  pub kind : slice_get kinds found.place ≡ Some found.kind
  pub entries : slice_get config.tables found.place ≡ Some found.entries

pub data FindsTable (name : Name) (kinds : List Kind) (config : Configuration) : Result TableAt ChangeFault → Type 0 where
  found : {table : TableAt} → IsTableAt name kinds config table → FindsTable name kinds config (Ok table)
  unknown : first_where (λ other. are_one_name other.name name) 0 config.model.tables ≡ None → FindsTable name kinds config (Err UnknownTable)

-- the kind of a table leaves it to be changed by this prefix: a const table never changes, and an ipset one has single addresses only
pub data AllowsChange (kind : Kind) (prefix : Prefix) : Result (Unit {0}) ChangeFault → Type 0 where
  allowed : MayChange kind prefix → AllowsChange kind prefix (Ok tt)
  read_only : kind ≡ Const → AllowsChange kind prefix (Err (Table Tables.ReadOnly))
  wrong_kind : kind ≡ Ipset → ¬ IsHost prefix → AllowsChange kind prefix (Err (Table Tables.WrongKind))

-- the entries with the prefix, each once, where it isn't among them
pub data GainsEntry (entries : List Prefix) (prefix : Prefix) : Result (List Prefix) ChangeFault → Type 0 where
  gained : {new : List Prefix} → ¬ Contains entries prefix → Gains entries new prefix → AllPairs (λ p q. p ≢ q) new →
      length new ≡ length entries + 1 → GainsEntry entries prefix (Ok new)
  present : Contains entries prefix → GainsEntry entries prefix (Err (Table Tables.Present))

-- the entries without the prefix, where it is among them
pub data LosesEntry (entries : List Prefix) (prefix : Prefix) : Result (List Prefix) ChangeFault → Type 0 where
  lost : {new : List Prefix} → Contains entries prefix → Loses entries new prefix → AllPairs (λ p q. p ≢ q) new →
      length new + 1 ≡ length entries → LosesEntry entries prefix (Ok new)
  absent : ¬ Contains entries prefix → LosesEntry entries prefix (Err (Table Tables.Absent))

-- the configuration in which the table at this place has these entries
abbrev pub with_entries : ℕ → List Prefix → Configuration → Configuration
with_entries place entries old = record old { tables = take place old.tables ++ entries ∷ drop (place + 1) old.tables }

-- a change of a table is told at the beginning of a text, since it has no place of its own
abbrev pub beginning : Span
beginning = record { line = 1; col = 1; at = 0; len = 0 }

-- the tables have so few entries as they may have; more are told as they are counted
abbrev pub KeepsEntries : Configuration → Stage (Unit {0}) ChangeFault
KeepsEntries next = asks_that (nat_le (entry_count next.tables) MAX_TABLE_ENTRIES) (too_many beginning Entries (told_count (entry_count next.tables)))

-- the tables of the configuration are of these kinds
module _ (kinds : List Kind) (old : Configuration) (name : Name) (prefix : Prefix) where
  -- the prefix is added to the table
  abbrev pub AddsEntry : Stage Configuration ChangeFault
  AddsEntry =
      FindsTable name kinds old andthen λ table.
      AllowsChange table.kind prefix andthen λ _.
      GainsEntry table.entries prefix andthen λ entries.
      let next = with_entries table.place entries old in
      KeepsEntries next andthen λ _. gives next

  -- the prefix is taken out of the table
  abbrev pub RemovesEntry : Stage Configuration ChangeFault
  RemovesEntry =
      FindsTable name kinds old andthen λ table.
      AllowsChange table.kind prefix andthen λ _.
      LosesEntry table.entries prefix andthen λ entries. gives (with_entries table.place entries old)
