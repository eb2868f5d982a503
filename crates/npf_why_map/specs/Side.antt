-- Which variables are tables behind the statements before a map.
use Rattle.std.specs.Prelude.{ℕ, Bool, true, false, List}
use Rattle.std.specs.List.{fold}
use Rattle.npf_syntax.specs.declared.stmt.Stmt.{Stmt}
use Rattle.npf_check.specs.Name.{no_text}
use Rattle.npf_check.specs.WrittenMap.{tables_behind}
use Rattle.npf_why_map.specs.declared.side.TableIf.{TableIf}
use Rattle.npf_why_map.specs.declared.side.TableIf.TheVariants.{Never, Always, Variable}

abbrev pub tables_after : List Stmt → List ℕ → Bool
tables_after stmts = fold tables_behind no_text stmts

-- what it comes to, where these variables are tables
abbrev pub is_table_if : (List ℕ → Bool) → TableIf → Bool
is_table_if known Never = false
is_table_if known Always = true
is_table_if known (Variable name) = known name.now
