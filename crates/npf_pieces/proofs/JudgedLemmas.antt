-- How far the pieces are judged follows each step.
use Rattle.std.proofs.Common.{◌≡◌, ℕ, ◌+◌, ◌-◌, ◌<◌, ◌≤◌, ◌∙◌, true, false, suc, refl, sym, ap, List, [], ◌∷◌, ◌++◌, Some, None, length}
use Rattle.std.{proofs.Common.{take, drop, get_or, append-nil, append_assoc, length-drop, arith}, specs.Prelude.{map, slice_range}}
use Rattle.std.{proofs.{Math.Seq.{drop-cons, drop-length}, lemmas.{List.{get_or-drop, map_push, take_more}, Grind.common_steps}}, specs.Prelude.All}
use Rattle.npf_pieces.specs.declared.{arrived.{Arrived.Arrived, Ending.{Ending, TheVariants.Unfinished}, SetAt.SetAt}, overlap.OpenSet.OpenSet}
use Rattle.npf_pieces.specs.{Judged.{IsJudged, pieces_of}, Overlap.KnowsSet}
use Rattle.std.proofs.lemmas.List.Elements.{All-push}
use Rattle.npf_pieces.specs.Sets.{Set, StandsIn, ended_by, ending_with, is_late, set_at, sets_from, unfinished}

pub range_empty : (all : List Arrived) (n m : ℕ) → n ≡ m → slice_range all n m ≡ []
range_empty all n m e = let none : m - n ≡ 0 = omega (arith, e) in ap (λ (k : ℕ). take k (drop n all)) none

range_push : (all : List Arrived) (first behind : ℕ) (d : Arrived) → first ≤ behind → behind < length all
    → slice_range all first (behind + 1) ≡ slice_range all first behind ++ get_or all behind d ∷ []
range_push all first behind d order within =
    let one : behind + 1 - first ≡ (behind - first) + 1 = omega (arith, order) in
    let there : first + (behind - first) ≡ behind = omega (arith, order) in
    let inside : behind - first < length (drop first all) = rw (length-drop first all) (omega (arith, order, within)) in
    ap (λ (k : ℕ). take k (drop first all)) one ∙ take_more (drop first all) (behind - first) d inside
    ∙ ap (λ (a : Arrived). slice_range all first behind ++ a ∷ []) (get_or-drop first all (behind - first) d ∙ ap (λ (k : ℕ). get_or all k d) there)

drop_one : (all : List Arrived) (at : ℕ) (d : Arrived) → at < length all → drop at all ≡ get_or all at d ∷ drop (at + 1) all
drop_one all at d h =
    let next : suc at ≡ at + 1 = omega arith in
    drop-cons all at d h ∙ ap (λ (k : ℕ). get_or all at d ∷ drop k all) next

range_one : (all : List Arrived) (at to : ℕ) (d : Arrived) → at < to → to ≤ length all
    → slice_range all at to ≡ get_or all at d ∷ slice_range all (at + 1) to
range_one all at to d h inside =
    let count : to - at ≡ suc (to - (at + 1)) = omega (arith, h) in
    ap (λ (k : ℕ). take k (drop at all)) count ∙ ap (take (suc (to - (at + 1)))) (drop_one all at d (omega (arith, h, inside)))

late_step : (set : List Arrived) (a : Arrived) (rest : List Arrived) → is_late set a ≡ true
    → sets_from set (a ∷ rest) ≡ record { pieces = set; ending = Unfinished } ∷ sets_from [] (a ∷ rest)
late_step [] a rest h = grind (arith, h)
late_step (o ∷ set) a rest h = rw h refl

timely_step : (set : List Arrived) (a : Arrived) (rest : List Arrived) → is_late set a ≡ false
    → sets_from set (a ∷ rest) ≡ ended_by (λ next. sets_from next rest) (set ++ a ∷ []) (ending_with set a)
timely_step set a rest h = rw h refl

pub unfinished_some : (set : List Arrived) → 1 ≤ length set → unfinished set ≡ record { pieces = set; ending = Unfinished } ∷ []
unfinished_some [] h = grind (arith, h)
unfinished_some (a ∷ set) h = refl

-- one more set that ended
more_ended : (all : List Arrived) (sets : List SetAt) (s : SetAt) (x : Set) (behind : List Set) → set_at all s ≡ x
    → map (set_at all) (sets ++ s ∷ []) ++ behind ≡ map (set_at all) sets ++ (x ∷ behind)
more_ended all sets s x behind e =
    ap (λ (list : List Set). list ++ behind) (map_push (set_at all) sets s)
    ∙ ap (λ (y : Set). (map (set_at all) sets ++ y ∷ []) ++ behind) e
    ∙ append_assoc (map (set_at all) sets) (x ∷ []) behind

module _ (all : List Arrived) (to : ℕ) (wanted : List Set) (known new : OpenSet) (sets : List SetAt) (judged : IsJudged all to wanted known sets)
    (order : known.first ≤ known.behind) (inside : to ≤ length all) where
  places_more : (s : SetAt) → s.first ≤ s.behind → s.behind ≤ to → All (StandsIn (length all)) (sets ++ s ∷ [])
  places_more s h within =
      let stands : StandsIn (length all) s = record { order = h; within = omega (arith, within, inside) } in
      All-push (StandsIn (length all)) sets s judged.places stands

  module _ (d : Arrived) (more : known.behind < to) where
    behind_one : slice_range all known.behind to ≡ get_or all known.behind d ∷ slice_range all (known.behind + 1) to
    behind_one = range_one all known.behind to d more inside

    pub judged_late : is_late (pieces_of all known) (get_or all known.behind d) ≡ true → KnowsSet [] new
        → new.first ≡ known.behind → new.behind ≡ known.behind
        → IsJudged all to wanted new (sets ++ record { first = known.first; behind = known.behind; ending = Unfinished } ∷ [])
    judged_late late none first behind =
        let empty : pieces_of all new ≡ [] = range_empty all new.first new.behind (first ∙ sym behind) in
        let step = late_step (pieces_of all known) (get_or all known.behind d) (slice_range all (known.behind + 1) to) late in
        let s : SetAt = record { first = known.first; behind = known.behind; ending = Unfinished } in
        record {
          within = rw behind judged.within;
          places = places_more s order judged.within;
          knows = rw empty none;
          so_far = rw empty (rw behind (
              more_ended all sets s (record { pieces = pieces_of all known; ending = Unfinished }) (sets_from [] (slice_range all known.behind to)) refl
              ∙ ap (λ (list : List Set). map (set_at all) sets ++ list) (rw behind_one (sym step))
              ∙ ap (λ (list : List Arrived). map (set_at all) sets ++ sets_from (pieces_of all known) list) (sym behind_one)
              ∙ judged.so_far
              ));
        }

    pub judged_more : is_late (pieces_of all known) (get_or all known.behind d) ≡ false
        → ending_with (pieces_of all known) (get_or all known.behind d) ≡ None
        → KnowsSet (pieces_of all known ++ get_or all known.behind d ∷ []) new
        → new.first ≡ known.first → new.behind ≡ known.behind + 1 → IsJudged all to wanted new sets
    judged_more timely on added first behind =
        let pieces : pieces_of all new ≡ pieces_of all known ++ get_or all known.behind d ∷ [] =
        rw first (rw behind (range_push all known.first known.behind d order (omega (arith, more, inside)))) in
        let step = timely_step (pieces_of all known) (get_or all known.behind d) (slice_range all (known.behind + 1) to) timely in
        record {
          within = rw behind (omega (arith, more));
          places = judged.places;
          knows = rw pieces added;
          so_far = rw pieces (rw behind (
              ap (λ (list : List Set). map (set_at all) sets ++ list) (sym (step ∙ rw on refl))
              ∙ ap (λ (list : List Arrived). map (set_at all) sets ++ sets_from (pieces_of all known) list) (sym behind_one)
              ∙ judged.so_far
              ));
        }

    pub judged_end : (ending : Ending) → is_late (pieces_of all known) (get_or all known.behind d) ≡ false
        → ending_with (pieces_of all known) (get_or all known.behind d) ≡ Some ending → KnowsSet [] new
        → new.first ≡ known.behind + 1 → new.behind ≡ known.behind + 1
        → IsJudged all to wanted new (sets ++ record { first = known.first; behind = known.behind + 1; ending = ending } ∷ [])
    judged_end ending timely on none first behind =
        let empty : pieces_of all new ≡ [] = range_empty all new.first new.behind (first ∙ sym behind) in
        let step = timely_step (pieces_of all known) (get_or all known.behind d) (slice_range all (known.behind + 1) to) timely in
        let s : SetAt = record { first = known.first; behind = known.behind + 1; ending = ending } in
        let x : Set = record { pieces = pieces_of all known ++ get_or all known.behind d ∷ []; ending = ending } in
        record {
          within = rw behind (omega (arith, more));
          places = places_more s (omega (arith, order)) (omega (arith, more));
          knows = rw empty none;
          so_far = rw empty (rw behind (
              more_ended all sets s x (sets_from [] (slice_range all (known.behind + 1) to))
              (ap (λ (list : List Arrived). let y : Set = record { pieces = list; ending = ending } in y) (range_push all known.first known.behind d order (omega (arith, more, inside))))
              ∙ ap (λ (list : List Set). map (set_at all) sets ++ list) (sym (step ∙ rw on refl))
              ∙ ap (λ (list : List Arrived). map (set_at all) sets ++ sets_from (pieces_of all known) list) (sym behind_one)
              ∙ judged.so_far
              ));
        }

  -- where no more comes
  none_left : known.behind ≡ to → slice_range all known.behind to ≡ []
  none_left e = range_empty all known.behind to e

  pub all_judged : known.behind ≡ to → known.first ≡ known.behind → map (set_at all) sets ≡ wanted
  all_judged e empty =
      let pieces : pieces_of all known ≡ [] = range_empty all known.first known.behind empty in
      let so_far = rw (none_left e) at (rw pieces at judged.so_far) in
      sym (append-nil (map (set_at all) sets)) ∙ so_far

  pub last_judged : known.behind ≡ to → known.first < known.behind
      → map (set_at all) (sets ++ record { first = known.first; behind = known.behind; ending = Unfinished } ∷ []) ≡ wanted
  last_judged e filled =
      let s : SetAt = record { first = known.first; behind = known.behind; ending = Unfinished } in
      let some : 1 ≤ length (pieces_of all known) = grind (arith, common_steps, filled, e, inside) in
      map_push (set_at all) sets s
      ∙ ap (λ (list : List Set). map (set_at all) sets ++ list) (sym (unfinished_some (pieces_of all known) some))
      ∙ rw (none_left e) at judged.so_far

  pub last_places : All (StandsIn (length all)) (sets ++ record { first = known.first; behind = known.behind; ending = Unfinished } ∷ [])
  last_places = places_more (record { first = known.first; behind = known.behind; ending = Unfinished }) order judged.within
