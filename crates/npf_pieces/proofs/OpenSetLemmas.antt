-- What is known of an open set follows a piece that is added.
use Rattle.std.proofs.Common.{◌≡◌, ℕ, ◌+◌, ◌-◌, ◌*◌, ◌/◌, ◌<◌, ◌≤◌, ◌∙◌, ◌&&◌, ◌||◌, Bool, true, false, refl, sym, ap, max, nat_eq, nat_le}
use Rattle.std.{proofs.Common.{nat_lt, if◌then◌else◌, List, [], ◌∷◌, ◌++◌, Option, Some, None, arith}, specs.{Prelude.slice_index, List.list_any}}
use Rattle.std.{specs.Option.option_or, proofs.{lemmas.{Bool.Decides.nat_tests, List.{get_or-replicate, Elements.{All-nil, All-push}}}, Common.replicate}}
use Rattle.npf_pieces.specs.declared.{arrived.{Arrived.Arrived, Ending.TheVariants.{Complete, Refused}}, overlap.OpenSet.OpenSet}
use Rattle.npf_pieces.specs.{Overlap.{KnowsSet, IsTaken, beginning_header, is_filled}, Piece.{IsGood, IsPlacedPiece, end_of}}
use Rattle.npf_pieces.{specs.Sets.{ending_of, has, has_byte, is_last, overlaps, passes_last, reach, shares_byte}, proofs.CountLemmas.count_within}
use Rattle.npf_pieces.proofs.SetLemmas.{all_by_count, any_push, covered_push, first_push, header_push, not_shared, left_false, right_false, passes_push}
use Rattle.npf_pieces.proofs.SetLemmas.{reach_push, reach_within, too_long, unit_byte, unit_had, unit_shared}

-- a piece that `piece_of` finds in a short packet
pub taken_of : (a : Arrived) (size : ℕ) → size ≤ 262144 → IsGood a.piece → IsPlacedPiece size a.piece → IsTaken a
taken_of a size short good placed = record {
  good = good;
  placed = record {
    header = placed.header;
    «data» = placed.«data»;
    end = placed.end;
    within = omega (arith, placed.within, short);
    named = placed.named;
    behind = placed.behind;
  };
}

pub zeros : (items : List ℕ) → items ≡ replicate 8192 0 → (unit : ℕ) → unit < 8192 → slice_index items unit ≤ 0
zeros items e unit h = omega (arith, ap (λ (xs : List ℕ). slice_index xs unit) e ∙ get_or-replicate 8192 unit 0 0 h)

pub known_none : (known : OpenSet) → known.begun ≡ None → known.covered ≡ 0 → known.reach ≡ 0 → known.ended ≡ false → known.header ≡ 0
    → ((unit : ℕ) → unit < 8192 → slice_index known.filled.items unit ≤ known.first) → KnowsSet [] known
known_none known begun covered reach ended header old = record {
  taken = All-nil IsTaken;
  apart = refl;
  begun = begun;
  covered = covered;
  reach = reach;
  ended = ended;
  header = header;
  units = λ unit h. let past = old unit h in grind (arith, nat_tests, past);
}

pub covered_within : (set : List Arrived) (known : OpenSet) → KnowsSet set known → known.covered ≤ 65535
covered_within set known is = omega (arith, is.covered, count_within (has set) (reach set), reach_within set is.taken)

module _ (set : List Arrived) (a : Arrived) (old : OpenSet) (is : KnowsSet set old) (taken : IsTaken a) where
  unit_in : (unit : ℕ) → unit < (end_of a.piece + 7) / 8 → unit < 8192
  unit_in unit h = omega (arith, h, taken.good.within)

  pub shares_known : (r : Bool)
      → (r ≡ true → (unit : ℕ) × (a.piece.from / 8 ≤ unit) × (unit < (end_of a.piece + 7) / 8) × (is_filled old unit ≡ true))
      → (r ≡ false → (unit : ℕ) → a.piece.from / 8 ≤ unit → unit < (end_of a.piece + 7) / 8 → is_filled old unit ≡ false)
      → r ≡ list_any (shares_byte a) set
  shares_known true some none =
      let u = some refl in
      sym (unit_shared set a (8 * u.0) (unit_had a u.0 taken.good.begins u.1 u.2) (sym (is.units u.0 (unit_in u.0 u.2)) ∙ u.3))
  shares_known false some none =
      sym (not_shared set a is.taken taken (λ unit h k. sym (is.units unit (unit_in unit k)) ∙ none refl unit h k))

  pub overlaps_known : (r : Bool) → r ≡ list_any (shares_byte a) set
      → ((r || (a.piece.last && old.ended)) || ((old.ended && nat_lt old.reach (end_of a.piece)) || (a.piece.last && nat_lt (end_of a.piece) old.reach)))
      ≡ overlaps set a
  overlaps_known r e =
      let ended = is.ended in
      let reaches = is.reach in
      let passes = passes_push set a is.apart in
      rw e (rw ended (rw reaches (rw passes refl)))

  pub added : (new : OpenSet) → overlaps set a ≡ false
      → new.begun ≡ option_or old.begun (Some a.time) → new.covered ≡ old.covered + (end_of a.piece - a.piece.from) → new.reach ≡ max old.reach (end_of a.piece)
      → new.ended ≡ (old.ended || a.piece.last) → new.header ≡ max old.header (beginning_header a.piece)
      → ((unit : ℕ) → unit < 8192 → is_filled new unit ≡ (is_filled old unit || (nat_le (a.piece.from / 8) unit && nat_lt unit ((end_of a.piece + 7) / 8))))
      → KnowsSet (set ++ a ∷ []) new
  added new free begun covered reaches ended header units =
      let shares = list_any (shares_byte a) set in
      let lasts = is_last a && list_any is_last set in
      let apart = left_false shares lasts (left_false (shares || lasts) (passes_last (set ++ a ∷ [])) free) in
      record {
        taken = All-push IsTaken set a is.taken taken;
        apart = right_false (shares || lasts) (passes_last (set ++ a ∷ [])) free;
        begun = begun ∙ ap (λ (t : Option ℕ). option_or t (Some a.time)) is.begun ∙ sym (first_push set a);
        covered = covered ∙ ap (λ (n : ℕ). n + (end_of a.piece - a.piece.from)) is.covered ∙ sym (covered_push set a (omega arith) apart);
        reach = reaches ∙ ap (λ (n : ℕ). max n (end_of a.piece)) is.reach ∙ sym (reach_push set a);
        ended = ended ∙ ap (λ (b : Bool). b || a.piece.last) is.ended ∙ sym (any_push is_last set a);
        header = header ∙ ap (λ (n : ℕ). max n (beginning_header a.piece)) is.header ∙ sym (header_push set a);
        units = λ unit h. units unit h
            ∙ ap (λ (b : Bool). b || (nat_le (a.piece.from / 8) unit && nat_lt unit ((end_of a.piece + 7) / 8))) (is.units unit h)
            ∙ ap (λ (b : Bool). has set (8 * unit) || b) (unit_byte a.piece.from (end_of a.piece) unit taken.good.begins)
            ∙ sym (any_push (has_byte (8 * unit)) set a);
      }

pub ending_known : (set : List Arrived) (known : OpenSet) → KnowsSet set known
    → (if known.ended && nat_eq known.covered known.reach
    then Some (if nat_lt 65535 (known.header + known.reach) then Refused else Complete) else None) ≡ ending_of set
ending_known set known is =
    rw is.ended (rw is.covered (rw is.reach (rw is.header (
    rw (all_by_count set (reach set)) (rw (too_long set (reach_within set is.taken)) refl)
    ))))
