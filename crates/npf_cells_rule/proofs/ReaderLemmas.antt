-- Each reader place stands once in the first pass's order, and those that are given one after the other stand apart.
use Rattle.std.proofs.Common.{◌≡◌, ℕ, zero, suc, ◌+◌, ◌<◌, ◌≤◌, Bool, true, cond, ◌||◌, eqb, ne_eqb, map, length, refl, ap, ◌∙◌, ⊎_elim, inl, inr, arith, [], ◌∷◌}
use Rattle.std.proofs.lemmas.{Bool.{agree_below_at, eqb-true, ltb-true, leb-true, or_cases}, List.{map-append, Sums.sum_by_push}}
use lib.Dec.{ltb, leb}
use Rattle.npf_connections.specs.Pass.{all_places}
use Rattle.npf_seats.specs.Sums.{occurs, numbers_below}
use Rattle.npf_cells_rule.specs.Readers.{reader_in_turn, readers_in_turn, ReadersStandApart}

pub in_turn_once : (reader : ℕ) → reader < all_places → occurs reader readers_in_turn ≡ 1
in_turn_once reader h = eqb-true (occurs reader readers_in_turn) 1 (agree_below_at (λ r. eqb (occurs r readers_in_turn) 1) (λ _. true) 66 reader refl h)

place_within : (position : ℕ) → position < all_places → reader_in_turn position < all_places
place_within position h = ltb-true (reader_in_turn position) 66 (agree_below_at (λ p. ltb (reader_in_turn p) 66) (λ _. true) 66 position refl h)

abbrev one_where : Bool → ℕ
one_where b = cond b 1 0

none_in : (n reader : ℕ) → n ≤ all_places → all_places ≤ reader → occurs reader (map reader_in_turn (numbers_below n)) ≡ 0
none_in zero reader few high = refl
none_in (suc n) reader few high =
    let rest = none_in n reader (omega (arith, few)) high in
    let pushed = map-append reader_in_turn (numbers_below n) (n ∷ []) in
    let more = sum_by_push (λ (y : ℕ). one_where (eqb y reader)) (map reader_in_turn (numbers_below n)) (reader_in_turn n) in
    let below = place_within n (omega (arith, few)) in
    let none : one_where (eqb (reader_in_turn n) reader) ≡ 0 = ap one_where (ne_eqb (reader_in_turn n) reader (λ e. absurd (omega (arith, e, below, high)))) in
    ap (occurs reader) pushed ∙ omega (arith, more, none, rest)

pub in_turn_never : (reader : ℕ) → all_places ≤ reader → occurs reader readers_in_turn ≡ 0
in_turn_never reader h = none_in all_places reader (omega arith) h

pub length-in_turn : length readers_in_turn ≡ all_places
length-in_turn = refl

pub stand_apart : ReadersStandApart
stand_apart position h = ⊎_elim
    (λ (e : leb (reader_in_turn position + 8) (reader_in_turn (position + 1)) ≡ true). inl (leb-true (reader_in_turn position + 8) (reader_in_turn (position + 1)) e))
    (λ (e : leb (reader_in_turn (position + 1) + 8) (reader_in_turn position) ≡ true). inr (leb-true (reader_in_turn (position + 1) + 8) (reader_in_turn position) e))
    (or_cases (leb (reader_in_turn position + 8) (reader_in_turn (position + 1))) (leb (reader_in_turn (position + 1) + 8) (reader_in_turn position))
    (agree_below_at (λ p. leb (reader_in_turn p + 8) (reader_in_turn (p + 1)) || leb (reader_in_turn (p + 1) + 8) (reader_in_turn p)) (λ _. true) 65 position refl (omega (arith, h))))
