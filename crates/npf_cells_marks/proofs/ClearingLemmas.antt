-- The part on marks stays where the mark of a node that was let go is cleared, and where the state of a node that came back is freed.
use Rattle.std.specs.List.{Contains}
use Rattle.std.proofs.Common.{◌≡◌, ◌≢◌, ℕ, ◌<◌, ◌≤◌, Bool, true, false, Some, None, List, [], ◌∷◌, set, slice_index, refl, sym, ap, ◌∙◌, subst, ⊎_elim, inl, inr, arith}
use Rattle.std.proofs.lemmas.List.Elements.{Contains-append_left, Contains-push}
use mathlib.Core.Option.{some}
use lib.ListN.{get_elem?}
use Rattle.npf_shelf.proofs.ListLemmas.{Contains-later}
use Rattle.npf_paths.specs.declared.cell.Cell.TheVariants as Cells
use Rattle.npf_paths.specs.declared.place.Lock.TheVariants as Locking
use Rattle.npf_paths.{specs.{declared.place.Place.Place, CellWords.cell_word, Places.lock_of}, proofs.FillingLemmas.same_or_apart}
use Rattle.npf_paths.specs.declared.place.Place.TheVariants as Places
use Rattle.npf_cells_words.specs.{declared.{layout.Layout.Layout, mark.{Emptied.Emptied, Marked.Marked, MetMark.MetMark}}, Codes.place_code, Layout.epoch_word}
use Rattle.npf_cells_words.{specs.{MarkWords.{state_word, IsMarkOf, IsBareNode}, Places.{place_at, IsInTrie, IsPlaceIn}}, proofs.CodeLemmas.codes_are_apart}
use Rattle.npf_seats.proofs.{PrefixLemmas.cons_cases, SumLemmas.set_there}
use Rattle.npf_cells_lives.{specs.Deaths.has_epoch, proofs.DeathLemmas.epoch_note}
use Rattle.npf_cells_marks.specs.Marks.{MarkSide, RestsIn, FitsPlaced, FitsMarked, FitsEmptied, FitsMet, HasMark, IsUnfreed, Marks}
use Rattle.npf_cells_marks.specs.Steps.{GetsNodeBack, FreesState}
use Rattle.npf_cells_marks.proofs.MarkLemmas.{no_epoch_twice, placed_at, marks-changed, unfreed_on, placed_on, marked_on, emptied_on, met_on, bare_on, stands_once}
use Rattle.npf_cells_marks.proofs.StepLemmas.{one_lock}

-- a place of a node is one of a node that the table has, under that node's lock
pub in_node : (layout : Layout) (p : Place) (n : ℕ) → IsPlaceIn n p → IsInTrie layout p → (n < layout.nodes) × (lock_of p ≡ Locking.Node n)
in_node layout (Places.Root digit) n within inside = absurd within
in_node layout (Places.Node other digit) n within inside = (subst (λ x. x < layout.nodes) within inside.0, ap (λ x. Locking.Node x) within)

-- and nothing stands in it where the node is bare
pub bare_place : (layout : Layout) (words : List ℕ) (p : Place) (n : ℕ) → IsPlaceIn n p → IsInTrie layout p → IsBareNode layout words n → slice_index words (place_at layout p) ≡ 0
bare_place layout words (Places.Root digit) n within inside bare = absurd within
bare_place layout words (Places.Node other digit) n within inside bare = ap (λ x. slice_index words (place_at layout (Places.Node x digit))) within ∙ bare digit inside.1

module _ {V : Type 0} (side_of : V → MarkSide) (layout : Layout) (published published' words words' : List ℕ) (views : List V) (i : ℕ) (p : Place)
    (node epoch : ℕ) (v w : V) (kept : Marks side_of layout published words views) (at : get_elem? views i ≡ some v)
    (step : GetsNodeBack side_of layout published published' words words' views i p node epoch v w) where
  clearer_rests : (n : ℕ) → HasMark layout words n → RestsIn (side_of w) n → RestsIn (side_of v) n × ((side_of w).protecting ≡ (side_of v).protecting)
  clearer_rests n mark rests = (step.rests.rests n rests, step.rests.protecting)

  clearer_goes : epoch_word words ≤ epoch_word words'
  clearer_goes = let same = step.changes.epoch in omega (arith, same)

  met_mark : FitsMet layout words (side_of v) (record { node = node; place = p; left = Some epoch })
  met_mark = kept.met i v (record { node = node; place = p; left = Some epoch }) at step.has

  inside_p : IsInTrie layout p
  inside_p = met_mark.inside

  marked_there : IsMarkOf layout words p node
  marked_there = met_mark.stands

  fits_there : FitsPlaced side_of layout published words views p node
  fits_there = kept.placed p node inside_p marked_there

  full : slice_index words (place_at layout p) ≢ 0
  full none = let here = marked_there in absurd (omega (arith, none, here))

  cleared : (n : ℕ) → ¬ (IsMarkOf layout words' p n)
  cleared n is = let here = step.stored in absurd (omega (arith, is, here))

  -- a mark that stands then stood in another place, and is another node's
  else_place : (q : Place) (n : ℕ) → IsMarkOf layout words' q n → q ≢ p
  else_place q n is e = absurd (cleared n (subst (λ x. IsMarkOf layout words' x n) e is))

  stood : (q : Place) (n : ℕ) → IsInTrie layout q → IsMarkOf layout words' q n → IsMarkOf layout words q n
  stood q n inside is = sym (step.changes.others q inside (else_place q n is)) ∙ is

  else_node : (q : Place) (n : ℕ) → IsInTrie layout q → IsMarkOf layout words' q n → n ≢ node
  else_node q n inside is same =
      absurd (else_place q n is (stands_once side_of layout published words views q p node kept inside inside_p (subst (λ x. IsMarkOf layout words q x) same (stood q n inside is)) marked_there))

  bare_left : (n : ℕ) → n < layout.nodes → IsBareNode layout words n → IsBareNode layout words' n
  bare_left n exists bare digit low = ⊎_elim
      (λ (e : Places.Node n digit ≡ p). absurd (full (ap (λ q. slice_index words (place_at layout q)) (sym e) ∙ bare digit low)))
      (λ (ne : Places.Node n digit ≢ p). step.changes.others (Places.Node n digit) (exists, low) ne ∙ bare digit low)
      (same_or_apart (Places.Node n digit) p)

  -- who marked a node has its lock, and nobody has this one's; so that node hangs, or its mark stands, elsewhere
  other_node : (j : ℕ) (u : V) (n : ℕ) → get_elem? views j ≡ some u → Contains (side_of u).locks (Locking.Node n) → n ≢ node
  other_node j u n e c same = step.nobodys j u e (subst (λ x. Contains (side_of u).locks (Locking.Node x)) same c)

  elsewhere : (side : MarkSide) (m : Marked) → FitsMarked side_of layout published words views side m → m.node ≢ node → (q : Place) → IsInTrie layout q → m.parent ≡ place_code q → q ≢ p
  elsewhere side m fits ne q inside names e = by_placed m.placed refl
    where
      there : fits.place ≡ p
      there = codes_are_apart layout fits.place q fits.inside inside (sym fits.names ∙ names) ∙ e

      by_placed : (b : Bool) → m.placed ≡ b → ⊥
      by_placed false is =
          let hangs : slice_index words (place_at layout p) ≡ cell_word (Cells.Node m.node) = ap (λ x. slice_index words (place_at layout x)) (sym there) ∙ fits.hangs is in
          let here = marked_there in
          absurd (omega (arith, hangs, here))
      by_placed true is =
          let stands : IsMarkOf layout words p m.node = ap (λ x. slice_index words (place_at layout x)) (sym there) ∙ fits.stands is in
          let here = marked_there in
          ne (omega (arith, stands, here))

  marked_left : (side side' : MarkSide) (m : Marked) → FitsMarked side_of layout published words views side m → m.node ≢ node →
      Contains side'.locks (Locking.Node m.node) → side'.loaded ≡ side.loaded → FitsMarked side_of layout published' words' (set views i w) side' m
  marked_left side side' m was ne locked loaded =
      marked_on side_of layout published published' words words' views i v w at clearer_goes clearer_rests side side' m was locked (λ _. loaded) (step.left m.node was.listed ne)
      (step.changes.parents m.node was.exists) (bare_left m.node was.exists was.bare) (λ q inside names. step.changes.others q inside (elsewhere side m was ne q inside names))

  -- the place where the mark was is all that the seat knows to be empty
  new_emptied : (e : Emptied) → (side_of w).emptied ≡ Some e → FitsEmptied layout published' words' (side_of w) e
  new_emptied e is =
      let knows = step.emptied e is in
      let there = in_node layout p e.node knows.0 inside_p in
      let locked : Contains (side_of v).locks (Locking.Node e.node) = subst (λ l. Contains (side_of v).locks l) there.1 met_mark.locked in
      record {
        exists = there.0;
        listed = step.left e.node (step.hung e.node knows.0) (λ same. full (bare_place layout words p e.node knows.0 inside_p (subst (λ n. IsBareNode layout words n) (sym same) fits_there.bare)));
        locked = subst (λ ls. Contains ls (Locking.Node e.node)) (sym step.locks) locked;
        unmarked = λ m c same.
            full (bare_place layout words p e.node knows.0 inside_p (subst (λ n. IsBareNode layout words n) same (kept.marks i v m at (subst (λ ms. Contains ms m) step.marks c)).bare));
        parent = λ code has. absurd (let no : None ≡ Some code = sym knows.1 ∙ has in cc);
        bare = λ digit c low. ap (λ q. slice_index words' (place_at layout q)) (sym (knows.2 digit c)) ∙ step.stored;
      }

  epoch_there : has_epoch (state_word layout words' node) ≡ 1
  epoch_there = ap has_epoch (step.changes.states node met_mark.exists ∙ met_mark.left epoch refl) ∙ epoch_note epoch

  epoch_stays : (n : ℕ) → (n < layout.nodes) × (has_epoch (state_word layout words n) ≡ 1) → (n < layout.nodes) × (has_epoch (state_word layout words' n) ≡ 1)
  epoch_stays n was = (was.0, ap has_epoch (step.changes.states n was.0) ∙ was.1)

  now_unfreed : (n : ℕ) → n ≡ node → IsUnfreed side_of (set views i w) n
  now_unfreed n same = record {
    seat = i;
    view = w;
    there = set_there views i v w at;
    has = subst (λ ns. Contains ns n) (sym step.unfreed) (subst (λ x. Contains (node ∷ (side_of v).unfreed) x)
        (sym same) (Contains-append_left (node ∷ []) (side_of v).unfreed node (Contains-push [] node)));
  }

  pub marks-cleared : Marks side_of layout published' words' (set views i w)
  marks-cleared = marks-changed side_of layout published published' words words' views i v w at
      (λ q n inside is.
      let was = stood q n inside is in
      let fits = kept.placed q n inside was in
      placed_on side_of layout published published' words words' views i v w at clearer_goes clearer_rests q n inside was fits
      (step.changes.parents n fits.exists) (step.changes.states n fits.exists) (bare_left n fits.exists fits.bare)
      (step.left n fits.listed (else_node q n inside is)))
      (λ q n inside is c. subst (λ ms. Contains ms (placed_at q n)) (sym step.marks) (kept.held i v q n at inside (stood q n inside is) (subst (λ ls. Contains ls (Locking.Node n)) step.locks c)))
      (λ j u q n ne e inside is c. kept.held j u q n e inside (stood q n inside is) c)
      (λ m c.
      let was = kept.marks i v m at (subst (λ ms. Contains ms m) step.marks c) in
      marked_left (side_of v) (side_of w) m was (other_node i v m.node at was.locked) (subst (λ ls. Contains ls (Locking.Node m.node)) (sym step.locks) was.locked) step.loaded)
      (λ j u m ne e c. (let was = kept.marks j u m e c in marked_left (side_of u) (side_of u) m was (other_node j u m.node e was.locked) was.locked refl))
      new_emptied
      (λ j u y ne e is.
      let was = kept.emptied j u y e is in
      emptied_on side_of layout published published' words words' views i v w at (side_of u) (side_of u) y was was.locked was.unmarked
      (step.left y.node was.listed (other_node j u y.node e was.locked)) (step.changes.parents y.node was.exists)
      (λ digit c low. ⊎_elim
      (λ (here : Places.Node y.node digit ≡ p). absurd (full (ap (λ q. slice_index words (place_at layout q)) (sym here) ∙ was.bare digit c low)))
      (λ (else' : Places.Node y.node digit ≢ p). step.changes.others (Places.Node y.node digit) (was.exists, low) else')
      (same_or_apart (Places.Node y.node digit) p)))
      (λ y is. absurd (let no : None ≡ Some y = sym step.met ∙ is in cc))
      (λ j u y ne e is.
      let was = kept.met j u y e is in
      let else' : y.place ≢ p = (λ here. step.alone j u ne e (subst (λ q. Contains (side_of u).locks (lock_of q)) here was.locked)) in
      met_on side_of layout published published' words words' views i v w at (side_of u) (side_of u) y was was.locked
      (step.changes.others y.place was.inside else') (step.changes.states y.node was.exists))
      (λ n c. ⊎_elim
      (λ (same : node ≡ n). subst (λ x. (x < layout.nodes) × (has_epoch (state_word layout words' x) ≡ 1)) same (met_mark.exists, epoch_there))
      (λ (had : Contains (side_of v).unfreed n). epoch_stays n (kept.unfreed i v n at had))
      (cons_cases node n (side_of v).unfreed (subst (λ ns. Contains ns n) step.unfreed c)))
      (λ j u n ne e c. epoch_stays n (kept.unfreed j u n e c))
      (λ n exists e. ⊎_elim
      (λ (mark : HasMark layout words n). ⊎_elim
      (λ (here : mark.place ≡ p).
      let also : IsMarkOf layout words p n = subst (λ q. IsMarkOf layout words q n) here mark.stands in
      let this = marked_there in
      inr (now_unfreed n (omega (arith, also, this))))
      (λ (else' : mark.place ≢ p). inl (record { place = mark.place; inside = mark.inside; stands = step.changes.others mark.place mark.inside else' ∙ mark.stands }))
      (same_or_apart mark.place p))
      (λ (was : IsUnfreed side_of views n). inr (unfreed_on side_of layout published published' words words' views i v w at n
      (λ c. subst (λ ns. Contains ns n) (sym step.unfreed) (Contains-later node n (side_of v).unfreed c)) was))
      (kept.states n exists (ap has_epoch (sym (step.changes.states n exists)) ∙ e)))

module _ {V : Type 0} (side_of : V → MarkSide) (layout : Layout) (published words words' : List ℕ) (views : List V) (i : ℕ)
    (node : ℕ) (v w : V) (kept : Marks side_of layout published words views) (at : get_elem? views i ≡ some v)
    (step : FreesState side_of layout published words words' views i node v w) where
  owner_rests : (n : ℕ) → HasMark layout words n → RestsIn (side_of w) n → RestsIn (side_of v) n × ((side_of w).protecting ≡ (side_of v).protecting)
  owner_rests n mark rests = (step.rests.rests n rests, step.rests.protecting)

  owner_goes : epoch_word words ≤ epoch_word words'
  owner_goes = let same = step.changes.epoch in omega (arith, same)

  marked_else : (q : Place) (n : ℕ) → IsInTrie layout q → IsMarkOf layout words q n → Locking.Node node ≢ Locking.Node n
  marked_else q n inside is e = let same : node ≡ n = cc in step.unlisted (subst (λ x. Contains published x) (sym same) (kept.placed q n inside is).listed)

  stood_still : (q : Place) (n : ℕ) → IsInTrie layout q → IsMarkOf layout words' q n → IsMarkOf layout words q n
  stood_still q n inside is = sym (step.changes.places q inside) ∙ is

  apart : (n : ℕ) → n ≢ node → Locking.Node node ≢ Locking.Node n
  apart n ne e = let same : node ≡ n = cc in ne (sym same)

  epoch_else : (n : ℕ) → n ≢ node → (n < layout.nodes) × (has_epoch (state_word layout words n) ≡ 1) → (n < layout.nodes) × (has_epoch (state_word layout words' n) ≡ 1)
  epoch_else n ne was = (was.0, ap has_epoch (step.changes.others n was.0 (apart n ne)) ∙ was.1)

  marked_same : (side side' : MarkSide) (m : Marked) → FitsMarked side_of layout published words views side m → side'.locks ≡ side.locks →
      side'.loaded ≡ side.loaded → FitsMarked side_of layout published words' (set views i w) side' m
  marked_same side side' m was locks loaded = marked_on side_of layout published published words words' views i v w at owner_goes owner_rests side side' m was
      (subst (λ ls. Contains ls (Locking.Node m.node)) (sym locks) was.locked) (λ _. loaded) was.listed
      (step.changes.parents m.node was.exists) (bare_on layout words words' step.changes.places m.node was.exists was.bare) (λ q inside names. step.changes.places q inside)

  emptied_same : (side side' : MarkSide) (e : Emptied) → FitsEmptied layout published words side e → side'.locks ≡ side.locks → side'.marks ≡ side.marks → FitsEmptied layout published words' side' e
  emptied_same side side' e was locks marks =
      emptied_on side_of layout published published words words' views i v w at side side' e was (subst (λ ls. Contains ls (Locking.Node e.node)) (sym locks) was.locked)
      (λ m c. was.unmarked m (subst (λ ms. Contains ms m) marks c)) was.listed (step.changes.parents e.node was.exists)
      (λ digit c low. step.changes.places (Places.Node e.node digit) (was.exists, low))

  met_same : (side side' : MarkSide) (x : MetMark) → FitsMet layout words side x → side'.locks ≡ side.locks → FitsMet layout words' side' x
  met_same side side' x was locks = met_on side_of layout published published words words' views i v w at side side' x was
      (subst (λ ls. Contains ls (lock_of x.place)) (sym locks) was.locked) (step.changes.places x.place was.inside)
      (step.changes.others x.node was.exists (marked_else x.place x.node was.inside was.stands))

  pub marks-regained : Marks side_of layout published words' (set views i w)
  marks-regained = marks-changed side_of layout published published words words' views i v w at
      (λ q n inside is.
      let was = stood_still q n inside is in
      let fits = kept.placed q n inside was in
      placed_on side_of layout published published words words' views i v w at owner_goes owner_rests q n inside was fits
      (step.changes.parents n fits.exists) (step.changes.others n fits.exists (marked_else q n inside was))
      (bare_on layout words words' step.changes.places n fits.exists fits.bare) fits.listed)
      (λ q n inside is c. subst (λ ms. Contains ms (placed_at q n)) (sym step.marks)
      (kept.held i v q n at inside (stood_still q n inside is) (subst (λ ls. Contains ls (Locking.Node n)) step.locks c)))
      (λ j u q n ne e inside is c. kept.held j u q n e inside (stood_still q n inside is) c)
      (λ m c. marked_same (side_of v) (side_of w) m (kept.marks i v m at (subst (λ ms. Contains ms m) step.marks c)) step.locks step.loaded)
      (λ j u m ne e c. marked_same (side_of u) (side_of u) m (kept.marks j u m e c) refl refl)
      (λ y is. emptied_same (side_of v) (side_of w) y (kept.emptied i v y at (sym step.emptied ∙ is)) step.locks step.marks)
      (λ j u y ne e is. emptied_same (side_of u) (side_of u) y (kept.emptied j u y e is) refl refl)
      (λ y is. met_same (side_of v) (side_of w) y (kept.met i v y at (sym step.met ∙ is)) step.locks)
      (λ j u y ne e is. met_same (side_of u) (side_of u) y (kept.met j u y e is) refl)
      (λ n c. (let had = step.fewer n c in epoch_else n had.1 (kept.unfreed i v n at had.0)))
      (λ j u n ne e c. epoch_else n (λ same. step.alone j u ne e (subst (λ x. Contains (side_of u).unfreed x) same c)) (kept.unfreed j u n e c))
      (λ n exists e. ⊎_elim
      (λ (is : Locking.Node node ≡ Locking.Node n).
      let same : node ≡ n = cc in
      let none : state_word layout words' n ≡ 0 = ap (state_word layout words') (sym same) ∙ step.stored in
      absurd (no_epoch_twice (state_word layout words' n) (ap has_epoch none) e))
      (λ (ne : Locking.Node node ≢ Locking.Node n). ⊎_elim
      (λ (mark : HasMark layout words n). inl (record { place = mark.place; inside = mark.inside; stands = step.changes.places mark.place mark.inside ∙ mark.stands }))
      (λ (was : IsUnfreed side_of views n).
      inr (unfreed_on side_of layout published published words words' views i v w at n (λ c. step.freed n c (λ same. ne (ap (λ x. Locking.Node x) (sym same)))) was))
      (kept.states n exists (ap has_epoch (sym (step.changes.others n exists ne)) ∙ e)))
      (one_lock (Locking.Node node) (Locking.Node n)))
