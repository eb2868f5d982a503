-- The ports to draw from, statement by statement.
use Rattle.std.proofs.{Common.{◌≡◌, ◌≤◌, ◌<◌, ◌+◌, ℕ, Option, List, ◌++◌, length, get_or, drop, sym, ap, ◌∙◌}, lemmas.List.{drop_more, drop_all}}
use Rattle.npf_faults.{specs.{declared.fault.ConfFault.ConfFault, First.{earlier, first_fault}}, proofs.FirstLemmas.{earlier-assoc, earlier-none, first_fault-append}}
use Rattle.npf_syntax.specs.declared.stmt.Stmt.{Stmt}
use Rattle.npf_model.specs.declared.settings.Settings.{Settings}
use Rattle.npf_check.specs.Parameter.{range_fault, range_faults, set_by}

-- a turn of the loop that keeps the settings so far and the first fault, and the loop's end
pub ranges_step : (whole first next : Option ConfFault) (settings now : Settings) (stmts : List Stmt) (i : ℕ) (d : Stmt) → i < length stmts
    → whole ≡ earlier first (first_fault (range_faults settings (drop i stmts))) → now ≡ set_by (get_or stmts i d) settings
    → next ≡ earlier first (first_fault (range_fault now (get_or stmts i d)))
    → whole ≡ earlier next (first_fault (range_faults now (drop (i + 1) stmts)))
ranges_step whole first next settings now stmts i d below so_far is_now is_next =
    let stmt = get_or stmts i d in
    let rest = drop (i + 1) stmts in
    let left = λ (s : Settings). first_fault (range_faults s rest) in
    so_far ∙ ap (λ xs. earlier first (first_fault (range_faults settings xs))) (drop_more stmts i d below)
    ∙ ap (λ s. earlier first (first_fault (range_fault s stmt ++ range_faults s rest))) (sym is_now)
    ∙ ap (earlier first) (first_fault-append (range_fault now stmt) (range_faults now rest))
    ∙ sym (earlier-assoc first (first_fault (range_fault now stmt)) (left now)) ∙ ap (λ front. earlier front (left now)) (sym is_next)

pub ranges_end : (whole first : Option ConfFault) (settings : Settings) (stmts : List Stmt) (i : ℕ) → length stmts ≤ i
    → whole ≡ earlier first (first_fault (range_faults settings (drop i stmts))) → whole ≡ first
ranges_end whole first settings stmts i past so_far =
    so_far ∙ ap (λ rest. earlier first (first_fault (range_faults settings rest))) (drop_all i stmts past) ∙ earlier-none first
