-- The tables with which a configuration begins: each has the entries of its file, or none where it has no file.
use Rattle.std.specs.Prelude.{◌≡◌, ◌≢◌, ℕ, ◌≤◌, Option, Some, None, List, [], length, map, unwrap_or, IfSome}
use Rattle.std.specs.List.{AllPairs, AllZip, sum_by}
use Rattle.std.specs.Str.{IsUtf8}
use Rattle.std.specs.declared.sync.Arc.{Arc}
use Rattle.std.specs.Arc.{arc_value}
use Rattle.npf_types.specs.declared.limits.TheConstants.{MAX_TABLE_ENTRIES, MAX_TEXT_BYTES}
use Rattle.npf_types.specs.declared.prefix.Prefix.{Prefix}
use Rattle.npf_types.specs.declared.span.Span.{Span}
use Rattle.npf_model.specs.declared.table.Kind.{Kind}
use Rattle.npf_model.specs.declared.table.TableDecl.{TableDecl}
use Rattle.npf_model.specs.Describes.{Tables}
use Rattle.npf_table.specs.declared.table.Table.{Table}
use Rattle.npf_table.specs.Table.{kind_of}
use Rattle.npf_table.specs.TableFile.{AreEntries, lines}
use Rattle.npf_outside.specs.Files.{Has, Tree as FileTree}

-- where a table's file is named; a table without one has no other place than its own
abbrev pub file_place : TableDecl → Span
file_place decl = unwrap_or decl.file_span decl.span

-- how many entries tables have together
abbrev pub entry_count : Tables → ℕ
entry_count tables = sum_by length tables

module _ (contents : Option FileTree) where
  -- what a table's entries are read from: its file, which has at most as many bytes as a text may, or nothing
  abbrev pub IsTableText : Option (List ℕ) → List ℕ → Type 0
  IsTableText None text = text ≡ []
  IsTableText (Some name) text = Has contents name text × (length text ≤ MAX_TEXT_BYTES)

  -- the entries that a declared table begins with, each once
  pub record AreFirstEntries (decl : TableDecl) (entries : List Prefix) : Type 0 where
    pub text : List ℕ
    pub told : IsTableText decl.file text
    pub written : AreEntries decl.kind (lines text) entries
    pub once : AllPairs (λ p q. p ≢ q) entries

  -- the entries of all declared tables, in their order
  pub record AreFirstTables (decls : List TableDecl) (tables : Tables) : Type 0 where
    pub each : AllZip AreFirstEntries decls tables
    pub few : entry_count tables ≤ MAX_TABLE_ENTRIES

-- the kinds of tables, and those that are declared
abbrev pub table_kinds : {Z : Type 0} → List (Arc Table Z) → List Kind
table_kinds tables = map kind_of (map arc_value tables)

abbrev pub declared_kinds : List TableDecl → List Kind
declared_kinds decls = map (λ decl. decl.kind) decls

-- each table has the kind that its declaration says
abbrev pub HaveKinds : {Z : Type 0} → List TableDecl → List (Arc Table Z) → Type 0
HaveKinds decls tables = table_kinds tables ≡ declared_kinds decls

-- the name of the file is text, if there is one
abbrev pub HasTextName : TableDecl → Type 0
HasTextName decl = IfSome decl.file IsUtf8
