-- The tables and procedures that a configuration declares, by their names, and their numbers: the places of the names in the text.
use Rattle.std.specs.Prelude.{ℕ, List, [], ◌∷◌, unwrap_or, min}
use Rattle.std.specs.List.{flat_map}
use Rattle.std.specs.Str.{bytes_eq}
use Rattle.npf_syntax.specs.declared.stmt.Stmt.{Stmt}
use Rattle.npf_model.specs.Verdict.{first_where}

-- the names of a configuration's tables and procedures, in the order of the text
pub record Declared : Type 0 where
  pub tables : List (List ℕ)
  pub procedures : List (List ℕ)

-- the number of a name that isn't there, which a check refuses
abbrev pub no_number : ℕ
no_number = 4294967295

-- a name's first place among the names, counted from 0; places past the greatest number have none
abbrev pub table_number : List (List ℕ) → List ℕ → ℕ
table_number names name = min (unwrap_or (first_where (bytes_eq name) 0 names) no_number) no_number

abbrev pub table_name : Stmt → List (List ℕ)
table_name (Stmt.Table name kind file span) = name.text ∷ []
table_name _ = []

abbrev pub table_names : List Stmt → List (List ℕ)
table_names stmts = flat_map table_name stmts

abbrev pub procedure_name : Stmt → List (List ℕ)
procedure_name (Stmt.Procedure name calls span) = name.text ∷ []
procedure_name _ = []

abbrev pub procedure_names : List Stmt → List (List ℕ)
procedure_names stmts = flat_map procedure_name stmts

-- the names that a configuration declares, wherever in the text they stand
abbrev pub declared_in : List Stmt → Declared
declared_in stmts = record { tables = table_names stmts; procedures = procedure_names stmts }
