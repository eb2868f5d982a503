-- The part on marks stays where a node is marked, and where its mark is put in its place.
use Rattle.std.specs.List.{Contains}
use Rattle.std.proofs.Common.{◌≡◌, ◌≢◌, ℕ, ◌<◌, ◌≤◌, Bool, true, false, Some, None, List, set, slice_index, refl, sym, ap, ◌∙◌, subst, ⊎_elim, inl, inr, arith}
use mathlib.Core.Option.{some}
use lib.ListN.{get_elem?}
use Rattle.npf_shelf.proofs.ListLemmas.{Contains-later}
use Rattle.npf_paths.specs.declared.cell.Cell.TheVariants as Cells
use Rattle.npf_paths.specs.declared.place.Lock.TheVariants as Locking
use Rattle.npf_paths.{specs.{declared.place.Place.Place, CellWords.cell_word, Places.lock_of}, proofs.FillingLemmas.same_or_apart}
use Rattle.npf_paths.specs.declared.place.Place.TheVariants as Places
use Rattle.npf_cells_words.specs.{declared.{layout.Layout.Layout, mark.{Emptied.Emptied, Marked.Marked, MetMark.MetMark}}, Codes.place_code, Layout.epoch_word}
use Rattle.npf_cells_words.{specs.{MarkWords.{state_word, parent_word, IsMarkOf, IsBareNode}, Places.{place_at, IsInTrie}}, proofs.CodeLemmas.codes_are_apart}
use Rattle.npf_seats.proofs.PrefixLemmas.{cons_cases}
use Rattle.npf_cells_lives.{specs.Deaths.has_epoch, proofs.DeathLemmas.low_note}
use Rattle.npf_cells_marks.specs.Marks.{MarkSide, RestsIn, FitsPlaced, FitsMarked, FitsEmptied, FitsMet, HasMark, IsUnfreed, Marks}
use Rattle.npf_cells_marks.specs.Steps.{MarksNode, PlacesMark}
use Rattle.npf_cells_marks.proofs.MarkLemmas.{no_epoch_twice, placed_at, marks-changed, unfreed_on, placed_on, marked_on, emptied_on, met_on, bare_on}
use Rattle.npf_cells_marks.proofs.StepLemmas.{one_lock}

module _ {V : Type 0} (side_of : V → MarkSide) (layout : Layout) (published words words' : List ℕ) (views : List V) (i : ℕ) (p : Place)
    (found : Emptied) (v w : V) (kept : Marks side_of layout published words views) (at : get_elem? views i ≡ some v)
    (step : MarksNode side_of layout words words' p found v w) where
  marker_rests : (node : ℕ) → HasMark layout words node → RestsIn (side_of w) node → RestsIn (side_of v) node × ((side_of w).protecting ≡ (side_of v).protecting)
  marker_rests node mark rests = (step.rests.rests node rests, step.rests.protecting)

  marker_goes : epoch_word words ≤ epoch_word words'
  marker_goes = let same = step.changes.epoch in omega (arith, same)

  bare_node : FitsEmptied layout published words (side_of v) found
  bare_node = kept.emptied i v found at step.has

  stood : (q : Place) (node : ℕ) → IsInTrie layout q → IsMarkOf layout words' q node → IsMarkOf layout words q node
  stood q node inside is = sym (step.changes.places q inside) ∙ is

  -- no mark of the node stands anywhere: its lock is the seat's, which hasn't marked it yet
  mark_apart : (q : Place) (node : ℕ) → IsInTrie layout q → IsMarkOf layout words q node → Locking.Node found.node ≢ Locking.Node node
  mark_apart q node inside is e =
      let same : found.node ≡ node = cc in
      let mine : Contains (side_of v).locks (Locking.Node node) = subst (λ n. Contains (side_of v).locks (Locking.Node n)) same bare_node.locked in
      absurd (bare_node.unmarked (placed_at q node) (kept.held i v q node at inside is mine) (sym same))

  epoch_apart : (node : ℕ) → has_epoch (state_word layout words node) ≡ 1 → Locking.Node found.node ≢ Locking.Node node
  epoch_apart node has e =
      let same : found.node ≡ node = cc in
      let here = ap (state_word layout words) same in
      let held = step.held in
      let low : has_epoch (state_word layout words node) ≡ 0 = low_note (state_word layout words node) (omega (arith, here, held)) in
      absurd (no_epoch_twice (state_word layout words node) low has)

  new_mark : Marked
  new_mark = record { node = found.node; parent = place_code p; placed = false }

  new_fits : FitsMarked side_of layout published words' (set views i w) (side_of w) (record { node = found.node; parent = place_code p; placed = false })
  new_fits = record {
    exists = bare_node.exists;
    listed = bare_node.listed;
    locked = subst (λ ls. Contains ls (Locking.Node found.node)) (sym step.locks) bare_node.locked;
    parent = step.changes.parents found.node bare_node.exists ∙ bare_node.parent (place_code p) step.parent;
    bare = λ digit low. step.changes.places (Places.Node found.node digit) (bare_node.exists, low) ∙ bare_node.bare digit (step.all digit low) low;
    place = p;
    inside = step.inside;
    names = refl;
    hangs = λ _. step.changes.places p step.inside ∙ step.hangs;
    stands = λ e. absurd cc;
    past = λ e some'. absurd cc;
  }

  pub marks-marked : Marks side_of layout published words' (set views i w)
  marks-marked = marks-changed side_of layout published published words words' views i v w at
      (λ q node inside is.
      let was = kept.placed q node inside (stood q node inside is) in
      placed_on side_of layout published published words words' views i v w at marker_goes marker_rests q node inside (stood q node inside is) was (step.changes.parents node was.exists)
      (step.changes.others node was.exists (mark_apart q node inside (stood q node inside is))) (bare_on layout words words' step.changes.places node was.exists was.bare) was.listed)
      (λ q node inside is c.
      let had = kept.held i v q node at inside (stood q node inside is) (subst (λ ls. Contains ls (Locking.Node node)) step.locks c) in
      subst (λ ms. Contains ms (placed_at q node)) (sym step.marks) (Contains-later (record { node = found.node; parent = place_code p; placed = false }) (placed_at q node) (side_of v).marks had))
      (λ j u q node ne e inside is c. kept.held j u q node e inside (stood q node inside is) c)
      (λ m c. ⊎_elim
      (λ (e : record { node = found.node; parent = place_code p; placed = false } ≡ m). subst (λ (x : Marked). FitsMarked side_of layout published words' (set views i w) (side_of w) x) e new_fits)
      (λ (had : Contains (side_of v).marks m).
      let was = kept.marks i v m at had in
      marked_on side_of layout published published words words' views i v w at marker_goes marker_rests (side_of v) (side_of w) m was
      (subst (λ ls. Contains ls (Locking.Node m.node)) (sym step.locks) was.locked) (λ _. step.loaded) was.listed
      (step.changes.parents m.node was.exists) (bare_on layout words words' step.changes.places m.node was.exists was.bare) (λ q inside names. step.changes.places q inside))
      (cons_cases (record { node = found.node; parent = place_code p; placed = false }) m (side_of v).marks (subst (λ ms. Contains ms m) step.marks c)))
      (λ j u m ne e c.
      let was = kept.marks j u m e c in
      marked_on side_of layout published published words words' views i v w at marker_goes marker_rests (side_of u)
      (side_of u) m was was.locked (λ _. refl) was.listed (step.changes.parents m.node was.exists)
      (bare_on layout words words' step.changes.places m.node was.exists was.bare) (λ q inside names. step.changes.places q inside))
      (λ y is. absurd (let no : None ≡ Some y = sym step.emptied ∙ is in cc))
      (λ j u y ne e is.
      let was = kept.emptied j u y e is in
      emptied_on side_of layout published published words words' views i v w at (side_of u) (side_of u) y was was.locked was.unmarked was.listed
      (step.changes.parents y.node was.exists) (λ digit c low. step.changes.places (Places.Node y.node digit) (was.exists, low)))
      (λ y is.
      let was = kept.met i v y at (sym step.met ∙ is) in
      met_on side_of layout published published words words' views i v w at (side_of v) (side_of w) y was
      (subst (λ ls. Contains ls (lock_of y.place)) (sym step.locks) was.locked) (step.changes.places y.place was.inside)
      (step.changes.others y.node was.exists (mark_apart y.place y.node was.inside was.stands)))
      (λ j u y ne e is.
      let was = kept.met j u y e is in
      met_on side_of layout published published words words' views i v w at (side_of u) (side_of u) y was was.locked
      (step.changes.places y.place was.inside) (step.changes.others y.node was.exists (mark_apart y.place y.node was.inside was.stands)))
      (λ node c. epoch_stays node (kept.unfreed i v node at (subst (λ ns. Contains ns node) step.unfreed c)))
      (λ j u node ne e c. epoch_stays node (kept.unfreed j u node e c))
      (λ node exists e. ⊎_elim
      (λ (mark : HasMark layout words node). inl (record { place = mark.place; inside = mark.inside; stands = step.changes.places mark.place mark.inside ∙ mark.stands }))
      (λ (was : IsUnfreed side_of views node). inr (unfreed_on side_of layout published published words words' views i v w at node (λ c. subst (λ ns. Contains ns node) (sym step.unfreed) c) was))
      (kept.states node exists (epoch_was node exists e)))
    where
      epoch_stays : (node : ℕ) → (node < layout.nodes) × (has_epoch (state_word layout words node) ≡ 1) → (node < layout.nodes) × (has_epoch (state_word layout words' node) ≡ 1)
      epoch_stays node was = (was.0, ap has_epoch (step.changes.others node was.0 (epoch_apart node was.1)) ∙ was.1)

      epoch_was : (node : ℕ) → node < layout.nodes → has_epoch (state_word layout words' node) ≡ 1 → has_epoch (state_word layout words node) ≡ 1
      epoch_was node exists e = ⊎_elim
          (λ (is : Locking.Node found.node ≡ Locking.Node node).
          let same : found.node ≡ node = cc in
          let two : state_word layout words' node ≡ 2 = ap (state_word layout words') (sym same) ∙ step.stored in
          absurd (no_epoch_twice (state_word layout words' node) (ap has_epoch two) e))
          (λ (ne : Locking.Node found.node ≢ Locking.Node node). ap has_epoch (sym (step.changes.others node exists ne)) ∙ e)
          (one_lock (Locking.Node found.node) (Locking.Node node))

module _ {V : Type 0} (side_of : V → MarkSide) (layout : Layout) (published words words' : List ℕ) (views : List V) (i : ℕ) (p : Place)
    (node : ℕ) (v w : V) (kept : Marks side_of layout published words views) (at : get_elem? views i ≡ some v)
    (step : PlacesMark side_of layout words words' views i p node v w) where
  placer_rests : (n : ℕ) → HasMark layout words n → RestsIn (side_of w) n → RestsIn (side_of v) n × ((side_of w).protecting ≡ (side_of v).protecting)
  placer_rests n mark rests = (step.rests.rests n rests, step.rests.protecting)

  placer_goes : epoch_word words ≤ epoch_word words'
  placer_goes = let same = step.changes.epoch in omega (arith, same)

  hung_node : FitsMarked side_of layout published words views (side_of v) (record { node = node; parent = place_code p; placed = false })
  hung_node = kept.marks i v (record { node = node; parent = place_code p; placed = false }) at step.mine

  -- the node hangs in the place
  hung : slice_index words (place_at layout p) ≡ cell_word (Cells.Node node)
  hung = ap (λ q. slice_index words (place_at layout q)) (codes_are_apart layout p hung_node.place step.inside hung_node.inside hung_node.names) ∙ hung_node.hangs refl

  full : slice_index words (place_at layout p) ≢ 0
  full none = let here = hung in absurd (omega (arith, none, here))

  no_mark : (n : ℕ) → ¬ (IsMarkOf layout words p n)
  no_mark n is = let here = hung in absurd (omega (arith, is, here))

  no_other : (n : ℕ) → n ≢ node → slice_index words (place_at layout p) ≢ cell_word (Cells.Node n)
  no_other n ne is = let here = hung in ne (omega (arith, is, here))

  bare_left : (n : ℕ) → n < layout.nodes → IsBareNode layout words n → IsBareNode layout words' n
  bare_left n exists bare digit low = ⊎_elim
      (λ (e : Places.Node n digit ≡ p). absurd (full (ap (λ q. slice_index words (place_at layout q)) (sym e) ∙ bare digit low)))
      (λ (ne : Places.Node n digit ≢ p). step.changes.others (Places.Node n digit) (exists, low) ne ∙ bare digit low)
      (same_or_apart (Places.Node n digit) p)

  stood_else : (q : Place) (n : ℕ) → IsInTrie layout q → q ≢ p → IsMarkOf layout words' q n → IsMarkOf layout words q n
  stood_else q n inside ne is = sym (step.changes.others q inside ne) ∙ is

  mark_left : (q : Place) (n : ℕ) → IsInTrie layout q → IsMarkOf layout words q n → q ≢ p
  mark_left q n inside is e = absurd (no_mark n (subst (λ x. IsMarkOf layout words x n) e is))

  -- in the place stands the mark of this node alone
  its_mark : (n : ℕ) → IsMarkOf layout words' p n → n ≡ node
  its_mark n is = let here = step.stored in omega (arith, is, here)

  new_placed : FitsPlaced side_of layout published words' (set views i w) p node
  new_placed =
      let state = step.changes.states node hung_node.exists in
      let bounds = step.state in
      record {
        exists = hung_node.exists;
        listed = hung_node.listed;
        parent = step.changes.parents node hung_node.exists ∙ hung_node.parent;
        bare = bare_left node hung_node.exists hung_node.bare;
        taken = subst (λ n. 1 ≤ n) (sym state) bounds.0;
        left = λ epoch e. absurd (let low = bounds.1 in omega (arith, state, e, low));
      }

  -- the seat's other marks are of nodes that hang, or whose mark stands, elsewhere
  elsewhere : (side : MarkSide) (m : Marked) → FitsMarked side_of layout published words views side m → m.node ≢ node → (q : Place) → IsInTrie layout q → m.parent ≡ place_code q → q ≢ p
  elsewhere side m fits ne q inside names e = by_placed m.placed refl
    where
      there : fits.place ≡ p
      there = codes_are_apart layout fits.place q fits.inside inside (sym fits.names ∙ names) ∙ e

      by_placed : (b : Bool) → m.placed ≡ b → ⊥
      by_placed false is = no_other m.node ne (ap (λ x. slice_index words (place_at layout x)) (sym there) ∙ fits.hangs is)
      by_placed true is = no_mark m.node (ap (λ x. slice_index words (place_at layout x)) (sym there) ∙ fits.stands is)

  same_else : (side : MarkSide) (m : Marked) → FitsMarked side_of layout published words views side m → m.node ≢ node → (q : Place) →
      IsInTrie layout q → m.parent ≡ place_code q → slice_index words' (place_at layout q) ≡ slice_index words (place_at layout q)
  same_else side m fits ne q inside names = step.changes.others q inside (elsewhere side m fits ne q inside names)

  new_marked : FitsMarked side_of layout published words' (set views i w) (side_of w) (placed_at p node)
  new_marked = record {
    exists = hung_node.exists;
    listed = hung_node.listed;
    locked = subst (λ ls. Contains ls (Locking.Node node)) (sym step.locks) hung_node.locked;
    parent = step.changes.parents node hung_node.exists ∙ hung_node.parent;
    bare = bare_left node hung_node.exists hung_node.bare;
    place = p;
    inside = step.inside;
    names = refl;
    hangs = λ e. absurd cc;
    stands = λ _. step.stored;
    past = λ e some'. absurd (let none = step.loaded in omega (arith, none, some'));
  }

  emptied_left : (side side' : MarkSide) (e : Emptied) → FitsEmptied layout published words side e → Contains side'.locks (Locking.Node e.node) →
      ((m : Marked) → Contains side'.marks m → m.node ≢ e.node) → FitsEmptied layout published words' side' e
  emptied_left side side' e was locked unmarked =
      emptied_on side_of layout published published words words' views i v w at side side' e was locked unmarked was.listed (step.changes.parents e.node was.exists)
      (λ digit c low. ⊎_elim
      (λ (here : Places.Node e.node digit ≡ p). absurd (full (ap (λ q. slice_index words (place_at layout q)) (sym here) ∙ was.bare digit c low)))
      (λ (ne : Places.Node e.node digit ≢ p). step.changes.others (Places.Node e.node digit) (was.exists, low) ne)
      (same_or_apart (Places.Node e.node digit) p))

  met_left : (side side' : MarkSide) (x : MetMark) → FitsMet layout words side x → Contains side'.locks (lock_of x.place) → FitsMet layout words' side' x
  met_left side side' x was locked = met_on side_of layout published published words words' views i v w at side side' x was locked
      (step.changes.others x.place was.inside (mark_left x.place x.node was.inside was.stands)) (step.changes.states x.node was.exists)

  held_placed : (q : Place) (n : ℕ) → IsInTrie layout q → IsMarkOf layout words' q n → Contains (side_of w).locks (Locking.Node n) → Contains (side_of w).marks (placed_at q n)
  held_placed q n inside is c = ⊎_elim
      (λ (e : q ≡ p).
      let one : n ≡ node = its_mark n (subst (λ x. IsMarkOf layout words' x n) e is) in
      subst (λ (y : Place × ℕ). Contains (side_of w).marks (placed_at y.0 y.1)) (λ t. (sym e t, sym one t)) step.placed)
      (λ (ne : q ≢ p).
      let was = stood_else q n inside ne is in
      let had = kept.held i v q n at inside was (subst (λ ls. Contains ls (Locking.Node n)) step.locks c) in
      let other : n ≢ node = (λ same. ne (codes_are_apart layout q p inside step.inside (sym (kept.placed q n inside was).parent ∙ (ap (parent_word layout words) same ∙ hung_node.parent)))) in
      step.marked (placed_at q n) had other)
      (same_or_apart q p)

  pub marks-placed : Marks side_of layout published words' (set views i w)
  marks-placed = marks-changed side_of layout published published words words' views i v w at
      (λ q n inside is. ⊎_elim
      (λ (e : q ≡ p).
      let one : n ≡ node = its_mark n (subst (λ x. IsMarkOf layout words' x n) e is) in
      subst (λ (y : Place × ℕ). FitsPlaced side_of layout published words' (set views i w) y.0 y.1) (λ t. (sym e t, sym one t)) new_placed)
      (λ (ne : q ≢ p).
      let was = stood_else q n inside ne is in
      let fits = kept.placed q n inside was in
      placed_on side_of layout published published words words' views i v w at placer_goes placer_rests q n inside was fits
      (step.changes.parents n fits.exists) (step.changes.states n fits.exists) (bare_left n fits.exists fits.bare) fits.listed)
      (same_or_apart q p))
      held_placed
      (λ j u q n ne e inside is c. ⊎_elim
      (λ (here : q ≡ p).
      let one : n ≡ node = its_mark n (subst (λ x. IsMarkOf layout words' x n) here is) in
      absurd (step.alone j u ne e (subst (λ x. Contains (side_of u).locks (Locking.Node x)) one c)))
      (λ (else' : q ≢ p). kept.held j u q n e inside (stood_else q n inside else' is) c)
      (same_or_apart q p))
      (λ m c. ⊎_elim
      (λ (old : Contains (side_of v).marks m × (m.node ≢ node)).
      let was = kept.marks i v m at old.0 in
      marked_on side_of layout published published words words' views i v w at placer_goes placer_rests (side_of v)
      (side_of w) m was (subst (λ ls. Contains ls (Locking.Node m.node)) (sym step.locks) was.locked)
      (λ some'. absurd (let none = step.loaded in omega (arith, none, some'))) was.listed (step.changes.parents m.node was.exists)
      (bare_left m.node was.exists was.bare) (same_else (side_of v) m was old.1))
      (λ (new : m ≡ placed_at p node). subst (λ (x : Marked). FitsMarked side_of layout published words' (set views i w) (side_of w) x) (sym new) new_marked)
      (step.marks m c))
      (λ j u m ne e c.
      let was = kept.marks j u m e c in
      let other : m.node ≢ node = (λ same. step.alone j u ne e (subst (λ x. Contains (side_of u).locks (Locking.Node x)) same was.locked)) in
      marked_on side_of layout published published words words' views i v w at placer_goes placer_rests (side_of u) (side_of u) m was was.locked
      (λ _. refl) was.listed (step.changes.parents m.node was.exists) (bare_left m.node was.exists was.bare)
      (same_else (side_of u) m was other))
      (λ y is.
      let was = kept.emptied i v y at (sym step.emptied ∙ is) in
      emptied_left (side_of v) (side_of w) y was (subst (λ ls. Contains ls (Locking.Node y.node)) (sym step.locks) was.locked) (λ m c. ⊎_elim
      (λ (old : Contains (side_of v).marks m × (m.node ≢ node)). was.unmarked m old.0)
      (λ (new : m ≡ placed_at p node). λ same. was.unmarked (record { node = node; parent = place_code p; placed = false }) step.mine (ap (λ (x : Marked). x.node) (sym new) ∙ same))
      (step.marks m c)))
      (λ j u y ne e is. (let was = kept.emptied j u y e is in emptied_left (side_of u) (side_of u) y was was.locked was.unmarked))
      (λ y is. (let was = kept.met i v y at (sym step.met ∙ is) in met_left (side_of v) (side_of w) y was (subst (λ ls. Contains ls (lock_of y.place)) (sym step.locks) was.locked)))
      (λ j u y ne e is. (let was = kept.met j u y e is in met_left (side_of u) (side_of u) y was was.locked))
      (λ n c. epoch_stays n (kept.unfreed i v n at (subst (λ ns. Contains ns n) step.unfreed c)))
      (λ j u n ne e c. epoch_stays n (kept.unfreed j u n e c))
      (λ n exists e. ⊎_elim
      (λ (mark : HasMark layout words n). inl (record {
        place = mark.place;
        inside = mark.inside;
        stands = step.changes.others mark.place mark.inside (mark_left mark.place n mark.inside mark.stands) ∙ mark.stands;
      }))
      (λ (was : IsUnfreed side_of views n). inr (unfreed_on side_of layout published published words words' views i v w at n (λ c. subst (λ ns. Contains ns n) (sym step.unfreed) c) was))
      (kept.states n exists (ap has_epoch (sym (step.changes.states n exists)) ∙ e)))
    where
      epoch_stays : (n : ℕ) → (n < layout.nodes) × (has_epoch (state_word layout words n) ≡ 1) → (n < layout.nodes) × (has_epoch (state_word layout words' n) ≡ 1)
      epoch_stays n was = (was.0, ap has_epoch (step.changes.states n was.0) ∙ was.1)
