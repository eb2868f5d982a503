-- The part on marks stays where a seat stores in a place under its lock, or in a node of its own.
use Rattle.std.specs.List.{Contains}
use Rattle.std.proofs.Common.{◌≡◌, ◌≢◌, ℕ, ◌<◌, ◌≤◌, Bool, true, false, Some, None, List, set, slice_index, refl, sym, ap, ◌∙◌, subst, ⊎_elim, inl, inr, arith}
use mathlib.Core.Option.{some}
use lib.ListN.{get_elem?}
use Rattle.npf_paths.specs.declared.place.Lock.TheVariants as Locking
use Rattle.npf_paths.specs.{declared.place.Place.Place, Places.lock_of}
use Rattle.npf_paths.specs.declared.place.Place.TheVariants as Places
use Rattle.npf_cells_words.specs.{declared.{layout.Layout.Layout, mark.{Emptied.Emptied, Marked.Marked, MetMark.MetMark}}, Codes.place_code, Layout.epoch_word}
use Rattle.npf_cells_words.{specs.{MarkWords.{state_word, IsMarkOf}, Places.{place_at, IsInTrie, IsPlaceIn}}, proofs.CodeLemmas.codes_are_apart}
use Rattle.npf_cells_lives.specs.Deaths.{has_epoch}
use Rattle.npf_cells_marks.specs.{Marks.{MarkSide, RestsIn, FitsMarked, FitsEmptied, FitsMet, HasMark, IsUnfreed, Marks}, Steps.{StoresInOwn, StoresInPlace}}
use Rattle.npf_cells_marks.proofs.{ClearingLemmas.in_node, MarkLemmas.{placed_at, marks-changed, unfreed_on, placed_on, marked_on, emptied_on, met_on}}

-- whatever changes in a place that is none of a bare node's, the node stays bare
bare_beside : (layout : Layout) (words words' : List ℕ) (p : Place) → ((q : Place) → IsInTrie layout q → q ≢ p → slice_index words' (place_at layout q) ≡ slice_index words (place_at layout q)) →
    (n : ℕ) → n < layout.nodes → ¬ (IsPlaceIn n p) →
    (digit : ℕ) → digit < 16 → slice_index words' (place_at layout (Places.Node n digit)) ≡ slice_index words (place_at layout (Places.Node n digit))
bare_beside layout words words' p others n exists out digit low = others (Places.Node n digit) (exists, low) (λ e. out (subst (IsPlaceIn n) e refl))

module _ {V : Type 0} (side_of : V → MarkSide) (layout : Layout) (published published' words words' : List ℕ) (views : List V) (i : ℕ)
    (p : Place) (v w : V) (kept : Marks side_of layout published words views) (at : get_elem? views i ≡ some v)
    (step : StoresInPlace side_of layout published published' words words' views i p v w) where
  storer_rests : (n : ℕ) → HasMark layout words n → RestsIn (side_of w) n → RestsIn (side_of v) n × ((side_of w).protecting ≡ (side_of v).protecting)
  storer_rests n mark rests = (step.rests.rests n rests, step.rests.protecting)

  storer_goes : epoch_word words ≤ epoch_word words'
  storer_goes = let same = step.changes.epoch in omega (arith, same)

  stood : (q : Place) (n : ℕ) → IsInTrie layout q → IsMarkOf layout words' q n → IsMarkOf layout words q n
  stood q n inside is = sym (step.changes.others q inside (λ e. step.markless n (subst (λ x. IsMarkOf layout words' x n) e is))) ∙ is

  -- the place is none of a node whose mark stands: its lock is the seat's, which would have marked it
  out_of_marked : (q : Place) (n : ℕ) → IsInTrie layout q → IsMarkOf layout words q n → ¬ (IsPlaceIn n p)
  out_of_marked q n inside is within =
      let there = in_node layout p n within step.inside in
      step.unmarked (placed_at q n) (kept.held i v q n at inside is (subst (λ l. Contains (side_of v).locks l) there.1 step.locked)) within

  -- nor of one that another seat has the lock of
  out_of_theirs : (j : ℕ) (u : V) (n : ℕ) → j ≢ i → get_elem? views j ≡ some u → Contains (side_of u).locks (Locking.Node n) → ¬ (IsPlaceIn n p)
  out_of_theirs j u n ne e c within = let there = in_node layout p n within step.inside in step.alone j u ne e (subst (λ l. Contains (side_of u).locks l) (sym there.1) c)

  -- a node that a seat marked hangs, or has its mark, elsewhere
  elsewhere : (side : MarkSide) (m : Marked) → FitsMarked side_of layout published words views side m → (q : Place) → IsInTrie layout q → m.parent ≡ place_code q → q ≢ p
  elsewhere side m fits q inside names e = by_placed m.placed refl
    where
      there : fits.place ≡ p
      there = codes_are_apart layout fits.place q fits.inside inside (sym fits.names ∙ names) ∙ e

      by_placed : (b : Bool) → m.placed ≡ b → ⊥
      by_placed false is = step.no_node m.node (ap (λ x. slice_index words (place_at layout x)) (sym there) ∙ fits.hangs is)
      by_placed true is = step.no_mark m.node (ap (λ x. slice_index words (place_at layout x)) (sym there) ∙ fits.stands is)

  marked_beside : (side side' : MarkSide) (m : Marked) → FitsMarked side_of layout published words views side m → ¬ (IsPlaceIn m.node p) →
      Contains side'.locks (Locking.Node m.node) → (1 ≤ side'.loaded → side'.loaded ≡ side.loaded) →
      FitsMarked side_of layout published' words' (set views i w) side' m
  marked_beside side side' m was out locked loaded = marked_on side_of layout published published' words words' views i v w at storer_goes storer_rests side side' m was locked loaded
      (step.listed m.node was.listed) (step.changes.parents m.node was.exists)
      (λ digit low. bare_beside layout words words' p step.changes.others m.node was.exists out digit low ∙ was.bare digit low)
      (λ q inside names. step.changes.others q inside (elsewhere side m was q inside names))

  met_beside : (side side' : MarkSide) (x : MetMark) → FitsMet layout words side x → Contains side'.locks (lock_of x.place) → FitsMet layout words' side' x
  met_beside side side' x was locked = met_on side_of layout published published' words words' views i v w at side side' x was locked
      (step.changes.others x.place was.inside (λ e. step.no_mark x.node (subst (λ q. IsMarkOf layout words q x.node) e was.stands))) (step.changes.states x.node was.exists)

  now_emptied : (e : Emptied) → (side_of w).emptied ≡ Some e → FitsEmptied layout published' words' (side_of w) e
  now_emptied e is =
      let knows = step.emptied e is in
      let there = in_node layout p e.node knows.0 step.inside in
      let locked : Contains (side_of v).locks (Locking.Node e.node) = subst (λ l. Contains (side_of v).locks l) there.1 step.locked in
      record {
        exists = there.0;
        listed = step.listed e.node (step.hung e.node knows.0);
        locked = subst (λ ls. Contains ls (Locking.Node e.node)) (sym step.locks) locked;
        unmarked = λ m c same. step.unmarked m (subst (λ ms. Contains ms m) step.marks c) (subst (λ n. IsPlaceIn n p) (sym same) knows.0);
        parent = λ code has. absurd (let no : None ≡ Some code = sym knows.1 ∙ has in cc);
        bare = λ digit c low. ap (λ q. slice_index words' (place_at layout q)) (sym (knows.2 digit c)) ∙ knows.3;
      }

  epoch_stays : (n : ℕ) → (n < layout.nodes) × (has_epoch (state_word layout words n) ≡ 1) → (n < layout.nodes) × (has_epoch (state_word layout words' n) ≡ 1)
  epoch_stays n was = (was.0, ap has_epoch (step.changes.states n was.0) ∙ was.1)

  pub marks-stored : Marks side_of layout published' words' (set views i w)
  marks-stored = marks-changed side_of layout published published' words words' views i v w at
      (λ q n inside is.
      let was = stood q n inside is in
      let fits = kept.placed q n inside was in
      placed_on side_of layout published published' words words' views i v w at storer_goes storer_rests q n inside was fits (step.changes.parents n fits.exists) (step.changes.states n fits.exists)
      (λ digit low. bare_beside layout words words' p step.changes.others n fits.exists (out_of_marked q n inside was) digit low ∙ fits.bare digit low) (step.listed n fits.listed))
      (λ q n inside is c. subst (λ ms. Contains ms (placed_at q n)) (sym step.marks) (kept.held i v q n at inside (stood q n inside is) (subst (λ ls. Contains ls (Locking.Node n)) step.locks c)))
      (λ j u q n ne e inside is c. kept.held j u q n e inside (stood q n inside is) c)
      (λ m c.
      let had = subst (λ ms. Contains ms m) step.marks c in
      let was = kept.marks i v m at had in
      marked_beside (side_of v) (side_of w) m was (step.unmarked m had) (subst (λ ls. Contains ls (Locking.Node m.node)) (sym step.locks) was.locked) (step.loaded m c))
      (λ j u m ne e c. (let was = kept.marks j u m e c in marked_beside (side_of u) (side_of u) m was (out_of_theirs j u m.node ne e was.locked) was.locked (λ _. refl)))
      now_emptied
      (λ j u y ne e is.
      let was = kept.emptied j u y e is in
      emptied_on side_of layout published published' words words' views i v w at (side_of u) (side_of u) y was was.locked was.unmarked
      (step.listed y.node was.listed) (step.changes.parents y.node was.exists)
      (λ digit c low. bare_beside layout words words' p step.changes.others y.node was.exists (out_of_theirs j u y.node ne e was.locked) digit low))
      (λ y is. (let was = kept.met i v y at (sym step.met ∙ is) in met_beside (side_of v) (side_of w) y was (subst (λ ls. Contains ls (lock_of y.place)) (sym step.locks) was.locked)))
      (λ j u y ne e is. (let was = kept.met j u y e is in met_beside (side_of u) (side_of u) y was was.locked))
      (λ n c. epoch_stays n (kept.unfreed i v n at (subst (λ ns. Contains ns n) step.unfreed c)))
      (λ j u n ne e c. epoch_stays n (kept.unfreed j u n e c))
      (λ n exists e. ⊎_elim
      (λ (mark : HasMark layout words n). inl (record {
        place = mark.place;
        inside = mark.inside;
        stands = step.changes.others mark.place mark.inside (λ here. step.no_mark n (subst (λ q. IsMarkOf layout words q n) here mark.stands)) ∙ mark.stands;
      }))
      (λ (was : IsUnfreed side_of views n). inr (unfreed_on side_of layout published published' words words' views i v w at n (λ c. subst (λ ns. Contains ns n) (sym step.unfreed) c) was))
      (kept.states n exists (ap has_epoch (sym (step.changes.states n exists)) ∙ e)))

module _ {V : Type 0} (side_of : V → MarkSide) (layout : Layout) (published words words' : List ℕ) (views : List V) (i : ℕ) (p : Place)
    (own : ℕ) (v w : V) (kept : Marks side_of layout published words views) (at : get_elem? views i ≡ some v)
    (step : StoresInOwn side_of layout published words words' p own v w) where
  owner_rests : (n : ℕ) → HasMark layout words n → RestsIn (side_of w) n → RestsIn (side_of v) n × ((side_of w).protecting ≡ (side_of v).protecting)
  owner_rests n mark rests = (subst (λ (side : MarkSide). RestsIn side n) step.same rests, ap (λ (side : MarkSide). side.protecting) step.same)

  owner_goes : epoch_word words ≤ epoch_word words'
  owner_goes = let same = step.changes.epoch in omega (arith, same)

  -- no mark stood there, for its node would name the place
  unstood : (n : ℕ) → ¬ (IsMarkOf layout words p n)
  unstood n is = let fits = kept.placed p n step.inside is in step.unnamed n fits.listed fits.parent

  stood_there : (q : Place) (n : ℕ) → IsInTrie layout q → IsMarkOf layout words' q n → IsMarkOf layout words q n
  stood_there q n inside is = sym (step.changes.others q inside (λ e. step.markless n (subst (λ x. IsMarkOf layout words' x n) e is))) ∙ is

  -- the place is none of a published node's
  out_of_listed : (n : ℕ) → Contains published n → ¬ (IsPlaceIn n p)
  out_of_listed n listed within =
      let mine = in_node layout p own step.within step.inside in
      let theirs = in_node layout p n within step.inside in
      let both : Locking.Node own ≡ Locking.Node n = sym mine.1 ∙ theirs.1 in
      let same : own ≡ n = cc in
      step.unlisted (subst (λ x. Contains published x) (sym same) listed)

  marked_apart : (side side' : MarkSide) (m : Marked) → FitsMarked side_of layout published words views side m → side'.locks ≡ side.locks →
      side'.loaded ≡ side.loaded → FitsMarked side_of layout published words' (set views i w) side' m
  marked_apart side side' m was locks loaded = marked_on side_of layout published published words words' views i v w at owner_goes owner_rests side side' m was
      (subst (λ ls. Contains ls (Locking.Node m.node)) (sym locks) was.locked) (λ _. loaded) was.listed
      (step.changes.parents m.node was.exists) (λ digit low. bare_beside layout words words' p step.changes.others m.node was.exists (out_of_listed m.node was.listed) digit low ∙ was.bare digit low)
      (λ q inside names. step.changes.others q inside (λ e. step.unnamed m.node was.listed (was.parent ∙ (names ∙ ap place_code e))))

  emptied_apart : (side side' : MarkSide) (e : Emptied) → FitsEmptied layout published words side e → side'.locks ≡ side.locks → side'.marks ≡ side.marks → FitsEmptied layout published words' side' e
  emptied_apart side side' e was locks marks =
      emptied_on side_of layout published published words words' views i v w at side side' e was (subst (λ ls. Contains ls (Locking.Node e.node)) (sym locks) was.locked)
      (λ m c. was.unmarked m (subst (λ ms. Contains ms m) marks c)) was.listed (step.changes.parents e.node was.exists)
      (λ digit c low. bare_beside layout words words' p step.changes.others e.node was.exists (out_of_listed e.node was.listed) digit low)

  met_apart : (side side' : MarkSide) (x : MetMark) → FitsMet layout words side x → side'.locks ≡ side.locks → FitsMet layout words' side' x
  met_apart side side' x was locks = met_on side_of layout published published words words' views i v w at side side' x was (subst (λ ls. Contains ls (lock_of x.place)) (sym locks) was.locked)
      (step.changes.others x.place was.inside (λ e. unstood x.node (subst (λ q. IsMarkOf layout words q x.node) e was.stands))) (step.changes.states x.node was.exists)

  epoch_still : (n : ℕ) → (n < layout.nodes) × (has_epoch (state_word layout words n) ≡ 1) → (n < layout.nodes) × (has_epoch (state_word layout words' n) ≡ 1)
  epoch_still n was = (was.0, ap has_epoch (step.changes.states n was.0) ∙ was.1)

  pub marks-owned : Marks side_of layout published words' (set views i w)
  marks-owned = marks-changed side_of layout published published words words' views i v w at
      (λ q n inside is.
      let was = stood_there q n inside is in
      let fits = kept.placed q n inside was in
      placed_on side_of layout published published words words' views i v w at owner_goes owner_rests q n inside was fits (step.changes.parents n fits.exists) (step.changes.states n fits.exists)
      (λ digit low. bare_beside layout words words' p step.changes.others n fits.exists (out_of_listed n fits.listed) digit low ∙ fits.bare digit low) fits.listed)
      (λ q n inside is c. subst (λ (side : MarkSide). Contains side.marks (placed_at q n)) (sym step.same)
      (kept.held i v q n at inside (stood_there q n inside is) (subst (λ (side : MarkSide). Contains side.locks (Locking.Node n)) step.same c)))
      (λ j u q n ne e inside is c. kept.held j u q n e inside (stood_there q n inside is) c)
      (λ m c. marked_apart (side_of v) (side_of w) m (kept.marks i v m at (subst (λ (side : MarkSide). Contains side.marks m) step.same c))
      (ap (λ (side : MarkSide). side.locks) step.same) (ap (λ (side : MarkSide). side.loaded) step.same))
      (λ j u m ne e c. marked_apart (side_of u) (side_of u) m (kept.marks j u m e c) refl refl)
      (λ y is. emptied_apart (side_of v) (side_of w) y (kept.emptied i v y at (ap (λ (side : MarkSide). side.emptied) (sym step.same) ∙ is))
      (ap (λ (side : MarkSide). side.locks) step.same) (ap (λ (side : MarkSide). side.marks) step.same))
      (λ j u y ne e is. emptied_apart (side_of u) (side_of u) y (kept.emptied j u y e is) refl refl)
      (λ y is. met_apart (side_of v) (side_of w) y (kept.met i v y at (ap (λ (side : MarkSide). side.met) (sym step.same) ∙ is)) (ap (λ (side : MarkSide). side.locks) step.same))
      (λ j u y ne e is. met_apart (side_of u) (side_of u) y (kept.met j u y e is) refl)
      (λ n c. epoch_still n (kept.unfreed i v n at (subst (λ (side : MarkSide). Contains side.unfreed n) step.same c)))
      (λ j u n ne e c. epoch_still n (kept.unfreed j u n e c))
      (λ n exists e. ⊎_elim
      (λ (mark : HasMark layout words n). inl (record {
        place = mark.place;
        inside = mark.inside;
        stands = step.changes.others mark.place mark.inside (λ here. unstood n (subst (λ q. IsMarkOf layout words q n) here mark.stands)) ∙ mark.stands;
      }))
      (λ (was : IsUnfreed side_of views n).
      inr (unfreed_on side_of layout published published words words' views i v w at n (λ c. subst (λ (side : MarkSide). Contains side.unfreed n) (sym step.same) c) was))
      (kept.states n exists (ap has_epoch (sym (step.changes.states n exists)) ∙ e)))
