-- Data that are written to their places, and what stays beside them.
use Rattle.std.proofs.Common.{◌≡◌, ℕ, ◌+◌, ◌-◌, ◌<◌, ◌≤◌, ◌⊎◌, ◌∙◌, false, ⊎_elim, inl, inr, zero, suc, sym, ap, max, nat_lt, List, [], ◌∷◌, length, take, drop, get_or, arith}
use Rattle.std.{specs.Prelude.{All, AllPairs, slice_range}, proofs.lemmas.{Bool.{cases_lt, Decides.nat_tests}, List.{get_or-take, get_or_default, length-take}}}
use Rattle.std.proofs.lemmas.Slice.{between_is, between-put_mid, take-put_mid_below, drop-put_mid}
use borrow.Rule.Slice.PartMut.{put_mid}
use Rattle.npf_pieces.specs.{declared.arrived.Arrived.Arrived, Datagram.{HasDataAt, KeepsOthers}, Piece.end_of, Sets.{reach, shares_byte}}
use Rattle.npf_traffic.specs.declared.packet.Packet.{Packet}

pub range_kept : (xs ys : List ℕ) (a k from to : ℕ) → a + k ≤ length xs → length ys ≡ k → (to ≤ a) ⊎ (a + k ≤ from)
    → slice_range (put_mid a k xs ys) from to ≡ slice_range xs from to
range_kept xs ys a k from to within long (inl before) =
    between_is (put_mid a k xs ys) from to
    ∙ ap (drop from) (take-put_mid_below a k xs ys to before (omega arith))
    ∙ sym (between_is xs from to)
range_kept xs ys a k from to within long (inr behind) =
    ap (take (to - from)) (drop-put_mid a k xs ys from behind (omega arith) long)

-- what shares no byte ends before the other begins
pub apart_order : (a b : Arrived) → shares_byte a b ≡ false
    → (end_of a.piece ≤ b.piece.from) ⊎ (end_of b.piece ≤ a.piece.from)
apart_order a b h = grind (arith, nat_tests)

pub ends_within_reach : (set : List Arrived) (i : ℕ) (d : Arrived) → i < length set → end_of (get_or set i d).piece ≤ reach set
ends_within_reach [] i d h = absurd (omega arith)
ends_within_reach (a ∷ set) zero d h = omega arith
ends_within_reach (a ∷ set) (suc i) d h = omega (arith, ends_within_reach set i d (omega arith))

-- data that stand so far stay, and those of one more piece come
pub put_more : (packets : List Packet) (set : List Arrived) (old new : List ℕ) (i : ℕ) (d : Arrived) → i < length set
    → AllPairs (λ a b. shares_byte a b ≡ false) set → All (HasDataAt packets old) (take i set) → HasDataAt packets new (get_or set i d)
    → KeepsOthers old new (get_or set i d).piece.from (end_of (get_or set i d).piece) → All (HasDataAt packets new) (take (i + 1) set)
put_more packets set old new i d inside apart so_far here others k e within =
    let count = length-take (i + 1) set in
    let below : k < i + 1 = omega (arith, within, count) in
    rw (get_or-take (i + 1) set k e below) (⊎_elim
    (λ (lt : k < i).
    let before = so_far k e (omega (arith, lt, inside, length-take i set)) in
    let was = rw (get_or-take i set k e lt) at before in
    let order = apart_order (get_or set k e) (get_or set i e) (apart k i e lt inside) in
    let same = get_or_default set i e d inside in
    let kept = others (get_or set k e).piece.from (end_of (get_or set k e).piece) (rw same at order) in
    let is : HasDataAt packets new (get_or set k e) = record { is = λ p. kept ∙ was.is p } in is)
    (λ (le : i ≤ k).
    let same : i ≡ k = omega (arith, le, below) in
    rw (← same) (rw (get_or_default set i e d inside) here))
    (cases_lt k i))
