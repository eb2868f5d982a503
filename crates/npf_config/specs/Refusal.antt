-- Why a configuration isn't loaded, in the order in which faults are met: those of the text alone, those of its tables in the
-- order of the text, and those of its compiled rules.
use Rattle.std.specs.Prelude.{◌≡◌, ℕ, ◌+◌, ◌<◌, Some, List, length, slice_get}
use Rattle.npf_types.specs.declared.limits.TheConstants.{MAX_TABLE_ENTRIES}
use Rattle.npf_types.specs.declared.prefix.Prefix.{Prefix}
use Rattle.npf_types.specs.declared.span.Span.{Span}
use Rattle.npf_faults.specs.declared.fault.ConfFault.{ConfFault}
use Rattle.npf_faults.specs.declared.fault.Excess.TheVariants.{Entries, Weight, Instructions}
use Rattle.npf_faults.specs.declared.fault.Fault.TheVariants.{BadTableFile, TooMany}
use Rattle.npf_syntax.specs.declared.stmt.Tree.{Tree}
use Rattle.npf_model.specs.declared.iface.Iface.{Iface}
use Rattle.npf_model.specs.declared.model.Model.{Model}
use Rattle.npf_model.specs.declared.table.TableDecl.{TableDecl}
use Rattle.npf_model.specs.Describes.{Tables}
use Rattle.npf_model.specs.Verdict.{all_rules}
use Rattle.npf_table.specs.TableFile.{IsFirstBadLine, lines}
use Rattle.npf_outside.specs.declared.files.FileFault.{FileFault}
use Rattle.npf_outside.specs.Counts.{count_after}
use Rattle.npf_outside.specs.Files.{FilesMoment, SameReadFaults}
use Rattle.npf_ruleset.specs.Refusal.{IsFirstHeavy, IsTooMuch}
use Rattle.npf_config.specs.declared.fault.LoadFault.{LoadFault}
use Rattle.npf_config.specs.declared.fault.LoadFault.TheVariants.{Conf, File, NoMemory}
use Rattle.npf_config.specs.Reading.{ComesTo, RefusesFileAt}
use Rattle.npf_config.specs.RulePlaces.{inspected_places}
use Rattle.npf_config.specs.Tables.{AreFirstEntries, AreFirstTables, IsTableText, entry_count, file_place}
use Rattle.npf_config.specs.Text.{Means, RefusesText}

-- a table's file has a first bad line, which is told at the file's name
pub record HasBadLine (before : FilesMoment) (decl : TableDecl) (fault : ConfFault) : Type 0 where
  pub text : List ℕ
  pub told : IsTableText before.contents decl.file text
  pub number : ℕ
  pub bad : IsFirstBadLine decl.kind (lines text) number
  pub tells : fault ≡ record { span = file_place decl; fault = BadTableFile number }

-- with the entries of a table the limit is passed, where so many stood before it: told at the table, with the sum so far
abbrev pub IsPastLimit : ℕ → List Prefix → TableDecl → ConfFault → Type 0
IsPastLimit before entries decl fault =
    (MAX_TABLE_ENTRIES < before + length entries)
    × (fault ≡ record { span = decl.span; fault = TooMany Entries (count_after before (length entries)) })

-- the first table with a fault
pub data RefusesTables (before : FilesMoment) (decls : List TableDecl) : ConfFault → Type 0 where
  bad_line : {fault : ConfFault} (decl : TableDecl) (tables : Tables) → ComesTo before decls decl tables → HasBadLine before decl fault →
      RefusesTables before decls fault
  too_many : {fault : ConfFault} (decl : TableDecl) (tables : Tables) (entries : List Prefix) → ComesTo before decls decl tables →
      AreFirstEntries before.contents decl entries → IsPastLimit (entry_count tables) entries decl fault → RefusesTables before decls fault

-- the first rule, in the order of inspection, that is too heavy, told at the rule; then more instructions than all rules may
-- have, told at the text's end
pub data RefusesRules (tree : Tree) (model : Model) : ConfFault → Type 0 where
  too_heavy : (place weight : ℕ) (span : Span) → IsFirstHeavy (all_rules model.groups) place weight → slice_get (inspected_places tree.stmts) place ≡ Some span →
      RefusesRules tree model (record { span = span; fault = TooMany Weight weight })
  too_much : (count : ℕ) → IsTooMuch (all_rules model.groups) count →
      RefusesRules tree model (record { span = tree.end; fault = TooMany Instructions count })

module _ (ifaces : List Iface) (text : List ℕ) (before now : FilesMoment) where
  -- the first fault of a configuration
  pub data RefusesConfiguration : ConfFault → Type 0 where
    by_text : (fault : ConfFault) → RefusesText ifaces text fault → RefusesConfiguration fault
    by_tables : (tree : Tree) (model : Model) (fault : ConfFault) → Means ifaces text tree model → RefusesTables before model.tables fault → RefusesConfiguration fault
    by_rules : (tree : Tree) (model : Model) (tables : Tables) (fault : ConfFault) →
        Means ifaces text tree model → AreFirstTables before.contents model.tables tables → RefusesRules tree model fault → RefusesConfiguration fault

  -- a file of a configuration whose text has no fault isn't read
  pub record RefusesTableFile (span : Span) (name : List ℕ) (fault : FileFault) : Type 0 where
    pub tree : Tree
    pub model : Model
    pub means : Means ifaces text tree model
    pub refused : RefusesFileAt before now model.tables span name fault

  -- why a configuration isn't loaded; want of memory says nothing of it
  abbrev pub RefusesLoad : LoadFault → Type 0
  RefusesLoad (Conf fault) = RefusesConfiguration fault × SameReadFaults before now
  RefusesLoad (File span name fault) = RefusesTableFile span name fault
  RefusesLoad NoMemory = Unit {0}
