-- What contracts see of a table: its kind and the list of its prefixes, and when a change of it is refused.
use Rattle.std.specs.Prelude.{◌≡◌, ◌≢◌, ℕ, List, Contains}
use Rattle.npf_model.specs.declared.table.Kind.{Kind}
use Rattle.npf_model.specs.declared.table.Kind.TheVariants.{Ipset, Const}
use Rattle.npf_types.specs.declared.prefix.Prefix.{Prefix}
use Rattle.npf_table.specs.declared.fault.TableFault.{TableFault}
use Rattle.npf_table.specs.declared.fault.TableFault.TheVariants.{Present, Absent, ReadOnly, WrongKind, BadLine, NoMemory}
use Rattle.npf_table.specs.declared.table.Table.{Table}
use Rattle.npf_table.specs.Line.{IsHost}
use Rattle.npf_table.specs.TableFile.{lines, AreEntries, IsFirstBadLine}

abbrev pub kind_of : Table → Kind
kind_of table = table.kind

abbrev pub prefixes : Table → List Prefix
prefixes table = table.prefixes

-- the table is that of a file's text
pub record IsTableOf (kind : Kind) (text : List ℕ) (table : Table) : Type 0 where
  pub of_kind : kind_of table ≡ kind
  pub entries : AreEntries kind (lines text) (prefixes table)

-- a file is refused for its first bad line; want of memory says nothing of it
abbrev pub RefusesFile : Kind → List ℕ → TableFault → Type 0
RefusesFile kind text (BadLine number) = IsFirstBadLine kind (lines text) number
RefusesFile kind text NoMemory = Unit {0}
RefusesFile kind text _ = ⊥

-- the kind leaves the table to be changed by this prefix
pub record MayChange (kind : Kind) (prefix : Prefix) : Type 0 where
  pub writable : kind ≢ Const
  pub fits : kind ≡ Ipset → IsHost prefix

-- why the kind doesn't: a const table never changes, and an ipset one has single addresses only
abbrev pub RefusesChange : Kind → Prefix → TableFault → Type 0
RefusesChange kind prefix ReadOnly = kind ≡ Const
RefusesChange kind prefix WrongKind = (kind ≡ Ipset) × ¬ IsHost prefix
RefusesChange kind prefix _ = ⊥

-- why a prefix isn't added: for the table's kind, and then since it is there already; it is for a new one alone that
-- memory may be wanting
abbrev pub RefusesAddition : Table → Prefix → TableFault → Type 0
RefusesAddition table prefix ReadOnly = RefusesChange (kind_of table) prefix ReadOnly
RefusesAddition table prefix WrongKind = RefusesChange (kind_of table) prefix WrongKind
RefusesAddition table prefix Present = MayChange (kind_of table) prefix × Contains (prefixes table) prefix
RefusesAddition table prefix NoMemory = MayChange (kind_of table) prefix × ¬ Contains (prefixes table) prefix
RefusesAddition table prefix _ = ⊥

-- why a prefix isn't taken out: for the table's kind, and then since it isn't there
abbrev pub RefusesRemoval : Table → Prefix → TableFault → Type 0
RefusesRemoval table prefix ReadOnly = RefusesChange (kind_of table) prefix ReadOnly
RefusesRemoval table prefix WrongKind = RefusesChange (kind_of table) prefix WrongKind
RefusesRemoval table prefix Absent = MayChange (kind_of table) prefix × ¬ Contains (prefixes table) prefix
RefusesRemoval table prefix _ = ⊥
