-- The total line is its pieces, each in front of the one behind it.
use Rattle.std.{proofs.Common.{◌≡◌, ℕ, List, ◌++◌, ◌∙◌, sym, append_assoc, length, codes, count_by}, specs.Fmt.decimal}
use Rattle.npf_engine.specs.{declared.outcome.Outcome.Outcome, Outcome.passes}
use Rattle.npf_report.specs.{declared.totals.Counts.Counts, TotalText.{total_text, CountsOutcomes, is_blocked, is_dropped, is_skipped, is_malformed}}

each_in_front : (a b c d e f g rest : List ℕ) → (a ++ b ++ c ++ d ++ e ++ f ++ g) ++ rest ≡ a ++ (b ++ (c ++ (d ++ (e ++ (f ++ (g ++ rest))))))
each_in_front a b c d e f g rest =
    append_assoc (a ++ b ++ c ++ d ++ e ++ f) g rest
    ∙ append_assoc (a ++ b ++ c ++ d ++ e) f (g ++ rest)
    ∙ append_assoc (a ++ b ++ c ++ d) e (f ++ (g ++ rest))
    ∙ append_assoc (a ++ b ++ c) d (e ++ (f ++ (g ++ rest)))
    ∙ append_assoc (a ++ b) c (d ++ (e ++ (f ++ (g ++ rest))))
    ∙ append_assoc a b (c ++ (d ++ (e ++ (f ++ (g ++ rest)))))

pub total_in_front : (outcomes : List Outcome) (counts : Counts) → CountsOutcomes outcomes counts → (rest : List ℕ) →
    (codes "packets " ++ decimal counts.packets) ++ ((codes " pass " ++ decimal counts.passed) ++ ((codes " block " ++ decimal counts.blocked)
    ++ ((codes " drop " ++ decimal counts.dropped) ++ ((codes " skip " ++ decimal counts.skipped) ++ ((codes " malformed " ++ decimal counts.malformed) ++ (codes "\n" ++ rest))))))
    ≡ total_text outcomes ++ rest
unfolding total_text
total_in_front outcomes counts are rest =
    rw (are.packets, are.passed, are.blocked, are.dropped, are.skipped, are.malformed)
    (sym (each_in_front (codes "packets " ++ decimal (length outcomes)) (codes " pass " ++ decimal (count_by passes outcomes)) (codes " block " ++ decimal (count_by is_blocked outcomes))
    (codes " drop " ++ decimal (count_by is_dropped outcomes)) (codes " skip " ++ decimal (count_by is_skipped outcomes))
    (codes " malformed " ++ decimal (count_by is_malformed outcomes)) (codes "\n") rest))
