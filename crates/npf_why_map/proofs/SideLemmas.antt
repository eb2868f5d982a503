-- Which variables are tables, one statement on.
use Rattle.std.{proofs.{Common.{◌≡◌, ◌+◌, ◌<◌, ℕ, List, [], ◌∷◌, ◌++◌, length, take, get_or, sym, ap, ◌∙◌}, lemmas.List.{take_more, Sums.fold-append}}}
use Rattle.npf_syntax.specs.declared.stmt.Stmt.{Stmt}
use Rattle.npf_check.specs.{Name.no_text, WrittenMap.tables_behind}
use Rattle.npf_why_map.specs.Side.{tables_after}

pub tables_more : (front : List Stmt) (stmt : Stmt) → tables_after (front ++ stmt ∷ []) ≡ tables_behind (tables_after front) stmt
tables_more front stmt = fold-append tables_behind no_text front (stmt ∷ [])

pub tables_next : (stmts : List Stmt) (i : ℕ) (stmt : Stmt) → i < length stmts → stmt ≡ get_or stmts i stmt →
    tables_behind (tables_after (take i stmts)) stmt ≡ tables_after (take (i + 1) stmts)
tables_next stmts i stmt within is =
    sym (ap tables_after (take_more stmts i stmt within ∙ ap (λ s. take i stmts ++ s ∷ []) (sym is)) ∙ tables_more (take i stmts) stmt)
