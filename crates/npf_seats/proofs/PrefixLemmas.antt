-- Histories that begin with one another.
use Rattle.std.specs.List.{Contains}
use Rattle.std.proofs.Common.{◌≡◌, ◌⊎◌, ℕ, Bool, true, false, cond, eq-eqb, ne_eqb, ◌==◌, List, [], ◌∷◌, ◌++◌, refl, sym, ap, ◌∙◌, ⊎_elim, inl, inr, append_assoc, append-nil}
use Rattle.std.proofs.lemmas.{Bool.Decides.Decides-eqb, List.{append_cancel_left, Elements.filter-append}}
pub use Rattle.npf_shelf.proofs.ListLemmas.{Contains-nil as none_listed, Contains-cons_cases as cons_cases}
use Rattle.npf_shelf.proofs.ListLemmas.{nil_from_append_left}
use Rattle.npf_core.{specs.History.IsPrefix, proofs.HistoryLemmas.IsPrefix-self}
use Rattle.npf_seats.specs.Seats.{by_seat}

pub prefix_of_none : {E : Type 0} (xs : List E) → IsPrefix [] xs
prefix_of_none xs = record { rest = xs; goes_on = refl }

-- what a number has in two parts
pub by_seat-append : {E : Type 0} (seat_of : E → ℕ) (n : ℕ) (xs ys : List E) → by_seat seat_of n (xs ++ ys) ≡ by_seat seat_of n xs ++ by_seat seat_of n ys
by_seat-append seat_of n xs ys = filter-append (λ entry. seat_of entry == n) xs ys

-- a number without entries has none in a part
pub none_in_prefix : {E : Type 0} (seat_of : E → ℕ) (n : ℕ) (xs ys : List E) → IsPrefix xs ys → by_seat seat_of n ys ≡ [] → by_seat seat_of n xs ≡ []
none_in_prefix seat_of n xs ys p none =
    nil_from_append_left (by_seat seat_of n xs) (by_seat seat_of n p.rest) (sym (by_seat-append seat_of n xs p.rest) ∙ (ap (by_seat seat_of n) (sym p.goes_on) ∙ none))

-- of two prefixes of one list the one is a prefix of the other
comparable : {E : Type 0} (xs ys zs : List E) → IsPrefix xs zs → IsPrefix ys zs → IsPrefix xs ys ⊎ IsPrefix ys xs
comparable [] ys zs p q = inl (record { rest = ys; goes_on = refl })
comparable (x ∷ xs) [] zs p q = inr (record { rest = x ∷ xs; goes_on = refl })
comparable (x ∷ xs) (y ∷ ys) [] p q = absurd (none (sym p.goes_on))
  where
    none : {E : Type 0} {x : E} {xs : List E} → x ∷ xs ≡ [] → ⊥
    none e = cc
comparable (x ∷ xs) (y ∷ ys) (z ∷ zs) p q = ⊎_elim
    (λ (h : IsPrefix xs ys). inl (record { rest = h.rest; goes_on = (λ i. y-is i ∷ h.goes_on i) }))
    (λ (h : IsPrefix ys xs). inr (record { rest = h.rest; goes_on = (λ i. sym y-is i ∷ h.goes_on i) }))
    (comparable xs ys zs (record { rest = p.rest; goes_on = tail p.goes_on }) (record { rest = q.rest; goes_on = tail q.goes_on }))
  where
    head : {E : Type 0} {a b : E} {u w : List E} → a ∷ u ≡ b ∷ w → a ≡ b
    head e = cc

    tail : {E : Type 0} {a b : E} {u w : List E} → a ∷ u ≡ b ∷ w → u ≡ w
    tail e = cc

    y-is : y ≡ x
    y-is = sym (head q.goes_on) ∙ head p.goes_on

-- what a whole history has of a number, a part has that goes on from all of it
pub between_same : {E : Type 0} (seat_of : E → ℕ) (n : ℕ) (xs ys zs : List E) → IsPrefix xs ys → IsPrefix ys zs →
    by_seat seat_of n zs ≡ by_seat seat_of n xs → by_seat seat_of n ys ≡ by_seat seat_of n xs
between_same seat_of n xs ys zs p q same =
    let all : by_seat seat_of n xs ++ (by_seat seat_of n p.rest ++ by_seat seat_of n q.rest) ≡ by_seat seat_of n xs =
    sym (append_assoc (by_seat seat_of n xs) (by_seat seat_of n p.rest) (by_seat seat_of n q.rest))
    ∙ (ap (λ h. h ++ by_seat seat_of n q.rest) (sym (by_seat-append seat_of n xs p.rest) ∙ ap (by_seat seat_of n) (sym p.goes_on))
    ∙ (sym (by_seat-append seat_of n ys q.rest) ∙ (ap (by_seat seat_of n) (sym q.goes_on) ∙ same))) in
    let none : by_seat seat_of n p.rest ++ by_seat seat_of n q.rest ≡ [] = append_cancel_left (by_seat seat_of n xs) _ [] (all ∙ sym (append-nil (by_seat seat_of n xs))) in
    ap (by_seat seat_of n) p.goes_on
    ∙ (by_seat-append seat_of n xs p.rest ∙ (ap (λ h. by_seat seat_of n xs ++ h) (nil_from_append_left (by_seat seat_of n p.rest) (by_seat seat_of n q.rest) none) ∙ append-nil (by_seat seat_of n xs)))

-- the longer of the history that a pass has seen and the one that it was told
pub record Longer {E : Type 0} (seen told log : List E) : Type 0 where
  pub history : List E
  pub longer : (history ≡ seen) ⊎ (history ≡ told)
  pub mine : IsPrefix seen history
  pub theirs : IsPrefix told history
  pub within : IsPrefix history log

pub longer_of : {E : Type 0} (seen told log : List E) → IsPrefix seen log → IsPrefix told log → Longer seen told log
longer_of seen told log p q = ⊎_elim
    (λ (h : IsPrefix seen told). record { history = told; longer = inr refl; mine = h; theirs = IsPrefix-self told; within = q })
    (λ (h : IsPrefix told seen). record { history = seen; longer = inl refl; mine = IsPrefix-self seen; theirs = h; within = p })
    (comparable seen told log p q)

-- where a number has no entry, no entry has the number
pub seen_entry : {E : Type 0} (seat_of : E → ℕ) (xs : List E) (e : E) → by_seat seat_of (seat_of e) xs ≡ [] → Contains xs e → ⊥
seen_entry seat_of [] e none c = none_listed e c
seen_entry {E} seat_of (x ∷ xs) e none c = by_test (λ n d. seen_entry seat_of xs e n d) (seat_of x == seat_of e) refl none
  where
    by_test : (by_seat seat_of (seat_of e) xs ≡ [] → Contains xs e → ⊥) → (test : Bool) → (seat_of x == seat_of e) ≡ test →
        cond test (x ∷ by_seat seat_of (seat_of e) xs) (by_seat seat_of (seat_of e) xs) ≡ [] → ⊥
    by_test rest true is none = cc
    by_test rest false is none = ⊎_elim
        (λ (same : x ≡ e). let one : (seat_of x == seat_of e) ≡ true = (Decides-eqb (seat_of x) (seat_of e)).1 (ap seat_of same) in cc)
        (λ (d : Contains xs e). rest none d)
        (cons_cases x e xs c)

-- an entry of another number
pub not_of : {E : Type 0} (seat_of : E → ℕ) (n : ℕ) (entry : E) → ¬ (seat_of entry ≡ n) → by_seat seat_of n (entry ∷ []) ≡ []
not_of seat_of n entry ne = ap (λ b. cond b (entry ∷ []) []) (ne_eqb (seat_of entry) n ne)

pub one_of : {E : Type 0} (seat_of : E → ℕ) (n : ℕ) (entry : E) → seat_of entry ≡ n → by_seat seat_of n (entry ∷ []) ≡ entry ∷ []
one_of seat_of n entry e = ap (λ b. cond b (entry ∷ []) []) (eq-eqb (seat_of entry) n e)

-- a number of which all was seen has none in the rest
pub rest_none : {E : Type 0} (seat_of : E → ℕ) (n : ℕ) (xs ys : List E) (p : IsPrefix xs ys) → by_seat seat_of n ys ≡ by_seat seat_of n xs → by_seat seat_of n p.rest ≡ []
rest_none seat_of n xs ys p same =
    append_cancel_left (by_seat seat_of n xs) (by_seat seat_of n p.rest) [] (sym (by_seat-append seat_of n xs p.rest)
    ∙ (ap (by_seat seat_of n) (sym p.goes_on) ∙ (same ∙ sym (append-nil (by_seat seat_of n xs)))))
