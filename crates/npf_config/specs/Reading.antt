-- How files are read while a configuration is loaded, and what refuses a file.
use Rattle.std.specs.Prelude.{◌≡◌, ℕ, ◌≤◌, List, ◌∷◌, ◌++◌, Some}
use Rattle.npf_types.specs.declared.limits.TheConstants.{MAX_TEXT_BYTES}
use Rattle.npf_types.specs.declared.span.Span.{Span}
use Rattle.npf_model.specs.declared.table.TableDecl.{TableDecl}
use Rattle.npf_model.specs.Describes.{Tables}
use Rattle.npf_outside.specs.declared.files.FileFault.{FileFault}
use Rattle.npf_outside.specs.declared.files.FileFault.TheVariants.{Failed, Long, NoMemory}
use Rattle.npf_outside.specs.Counts.{Rose}
use Rattle.npf_outside.specs.Files.{FilesMoment, IsLonger}
use Rattle.npf_config.specs.Tables.{AreFirstTables, file_place}

-- files were read at most: what they hold and the count of failed writes stay, and no other count falls
pub record OnlyReads (before now : FilesMoment) : Type 0 where
  pub contents : now.contents ≡ before.contents
  pub write_faults : now.write_faults ≡ before.write_faults
  pub read_faults : before.read_faults ≤ now.read_faults
  pub read_faults_of : (name : List ℕ) → before.read_faults_of name ≤ now.read_faults_of name
  pub taken : before.taken ≤ now.taken

-- why a file isn't read: reading failed, by the counts of all files and of this one; or it is longer than a text may be
abbrev pub IsUnread : List ℕ → FilesMoment → FilesMoment → FileFault → Type 0
IsUnread name before now Failed = Rose before.read_faults now.read_faults × Rose (before.read_faults_of name) (now.read_faults_of name)
IsUnread name before now Long = IsLonger before.contents name MAX_TEXT_BYTES before.taken now.taken
IsUnread name before now NoMemory = ⊥

-- of the declared tables those in front of this one were read
pub record ComesTo (before : FilesMoment) (decls : List TableDecl) (decl : TableDecl) (tables : Tables) : Type 0 where
  pub front : List TableDecl
  pub behind : List TableDecl
  pub are : decls ≡ front ++ decl ∷ behind
  pub read : AreFirstTables before.contents front tables

-- a table's file isn't read: it has this name, which is written at this place
pub record HasUnreadFile (before now : FilesMoment) (decl : TableDecl) (span : Span) (name : List ℕ) (fault : FileFault) : Type 0 where
  pub named : decl.file ≡ Some name
  pub place : span ≡ file_place decl
  pub unread : IsUnread name before now fault

-- of the declared tables those in front of the one with this file were read
pub record RefusesFileAt (before now : FilesMoment) (decls : List TableDecl) (span : Span) (name : List ℕ) (fault : FileFault) : Type 0 where
  pub decl : TableDecl
  pub tables : Tables
  pub comes : ComesTo before decls decl tables
  pub unread : HasUnreadFile before now decl span name fault
