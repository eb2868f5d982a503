-- The entries of a number.
use Rattle.std.{proofs.Common.{◌≡◌, ◌⊎◌, ℕ, ◌==◌, Bool, true, false, List, [], ◌∷◌, ◌++◌, cond, refl, ap, sym, subst, ◌∙◌, ⊎_elim}, specs.List.Contains}
use Rattle.std.proofs.lemmas.{Bool.Decides.Decides-eqb, List.{append_cancel_left, append-nil}}
use Rattle.npf_shelf.proofs.ListLemmas.{Contains-first, Contains-later, Contains-nil, Contains-cons_cases}
use Rattle.npf_core.{specs.{declared.entry.Entry.Entry, History.by}, proofs.HistoryLemmas.by-append}

-- each entry stands among those of its number
pub stands_by : {S A R : Type 0} (xs : List (Entry S A R)) (entry : Entry S A R) → Contains xs entry → Contains (by entry.seat xs) entry
stands_by [] entry c = absurd (Contains-nil entry c)
stands_by {S} {A} {R} (x ∷ xs) entry c = ⊎_elim at_first (λ d. at_later (x.seat == entry.seat) (stands_by xs entry d)) (Contains-cons_cases x entry xs c)
  where
    at_first : x ≡ entry → Contains (by entry.seat (x ∷ xs)) entry
    at_first same =
        let here : (x.seat == entry.seat) ≡ true = (Decides-eqb x.seat entry.seat).1 (ap (λ (e : Entry S A R). e.seat) same) in
        subst (λ (test : Bool). Contains (cond test (x ∷ by entry.seat xs) (by entry.seat xs)) entry) (sym here)
        (subst (λ (z : Entry S A R). Contains (z ∷ by entry.seat xs) entry) (sym same) (Contains-first entry (by entry.seat xs)))

    at_later : (test : Bool) → Contains (by entry.seat xs) entry → Contains (cond test (x ∷ by entry.seat xs) (by entry.seat xs)) entry
    at_later true e = Contains-later x entry (by entry.seat xs) e
    at_later false e = e

-- what goes on from a list without entries of a number has none of it
pub none_added : {S A R : Type 0} (n : ℕ) (old added now : List (Entry S A R)) → now ≡ old ++ added → by n now ≡ by n old → by n added ≡ []
none_added n old added now is same =
    append_cancel_left (by n old) (by n added) [] (sym (by-append n old added) ∙ (ap (by n) (sym is) ∙ (same ∙ sym (append-nil (by n old)))))

pub kept_by : {S A R : Type 0} (n : ℕ) (old added now : List (Entry S A R)) → now ≡ old ++ added → by n added ≡ [] → by n now ≡ by n old
kept_by n old added now is none = ap (by n) is ∙ (by-append n old added ∙ (ap (λ xs. by n old ++ xs) none ∙ append-nil (by n old)))

pub none_before : {S A R : Type 0} (n : ℕ) (old added now : List (Entry S A R)) → now ≡ old ++ added → by n now ≡ [] → by n old ≡ []
none_before n old added now is none = nil_left (by n old) (by n added) (sym (by-append n old added) ∙ (ap (by n) (sym is) ∙ none))
  where
    nil_left : {X : Type 0} (xs ys : List X) → xs ++ ys ≡ [] → xs ≡ []
    nil_left [] ys e = refl
    nil_left (x ∷ xs) ys e = absurd cc
