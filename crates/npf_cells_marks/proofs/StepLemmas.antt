-- The part on marks stays through steps that leave its words, through a load of the epoch, and where a lock is got or freed.
use Rattle.std.specs.List.{Contains}
use Rattle.std.proofs.Common.{◌≡◌, ◌≢◌, ◌⊎◌, ℕ, ◌+◌, ◌^◌, ◌<◌, ◌≤◌, Some, None, List, set, slice_index, refl, sym, ap, ◌∙◌, subst, ⊎_elim, inl, inr, arith}
use Rattle.std.proofs.lemmas.Bool.{cases_eq}
use mathlib.Core.Option.{some}
use lib.ListN.{get_elem?}
use Rattle.atomic_table.proofs.Lists.{at_set}
use Rattle.npf_shelf.proofs.ListLemmas.{Contains-later}
use Rattle.npf_paths.specs.{declared.place.{Lock.Lock, Place.Place}, Places.lock_of}
use Rattle.npf_paths.specs.declared.place.Lock.TheVariants as Locking
use Rattle.npf_paths.specs.declared.place.Place.TheVariants as Places
use Rattle.npf_cells_words.specs.{declared.{layout.Layout.Layout, mark.{Emptied.Emptied, Marked.Marked, MetMark.MetMark}}, Layout.epoch_word}
use Rattle.npf_cells_words.specs.{MarkWords.{state_word, IsMarkOf}, Places.{lock_at, place_at, IsInTrie}}
use Rattle.npf_seats.proofs.PrefixLemmas.{cons_cases}
use Rattle.npf_cells_lives.{specs.Deaths.{has_epoch, IsProtectedBy}, proofs.DeathLemmas.low_note}
use Rattle.npf_cells_marks.specs.Marks.{MarkSide, RestsIn, IsPastNode, FitsPlaced, FitsMarked, FitsEmptied, FitsMet, HasMark, IsUnfreed, Marks}
use Rattle.npf_cells_marks.specs.Steps.{FreesLock, GetsLock, IsFreedBy, LeavesMarks, LoadsEpoch, IsFreedBy.{freed, let_go}}
use Rattle.npf_cells_marks.proofs.MarkLemmas.{no_epoch_twice, placed_at, marks-changed, unfreed_on, past_on, placed_on, marked_on, emptied_on, met_on, bare_on}

module _ {V : Type 0} (side_of : V → MarkSide) (layout : Layout) (published published' words words' : List ℕ) (views : List V) (i : ℕ) (v w : V)
    (kept : Marks side_of layout published words views) (at : get_elem? views i ≡ some v) (same : LeavesMarks layout published published' words words' (side_of v) (side_of w)) where
  bare_still : (node : ℕ) → node < layout.nodes → (digit : ℕ) → digit < 16 →
      slice_index words' (place_at layout (Places.Node node digit)) ≡ slice_index words (place_at layout (Places.Node node digit))
  bare_still node exists digit low = same.places (Places.Node node digit) (exists, low)

  marked_still : (side side' : MarkSide) (m : Marked) → FitsMarked side_of layout published words views side m → side'.locks ≡ side.locks →
      (1 ≤ side'.loaded → side'.loaded ≡ side.loaded) → FitsMarked side_of layout published' words' (set views i w) side' m
  marked_still side side' m was locks loaded = marked_on side_of layout published published' words words' views i v w at same.goes same.rests side side' m was
      (subst (λ ls. Contains ls (Locking.Node m.node)) (sym locks) was.locked) loaded
      (same.listed m.node was.listed) (same.parents m.node was.exists was.listed) (bare_on layout words words' same.places m.node was.exists was.bare) (λ q inside names. same.places q inside)

  emptied_still : (side side' : MarkSide) (e : Emptied) → FitsEmptied layout published words side e → side'.locks ≡ side.locks → side'.marks ≡ side.marks → FitsEmptied layout published' words' side' e
  emptied_still side side' e was locks marks =
      emptied_on side_of layout published published' words words' views i v w at side side' e was (subst (λ ls. Contains ls (Locking.Node e.node)) (sym locks) was.locked)
      (λ m c. was.unmarked m (subst (λ ms. Contains ms m) marks c)) (same.listed e.node was.listed) (same.parents e.node was.exists was.listed) (λ digit c low. bare_still e.node was.exists digit low)

  met_still : (side side' : MarkSide) (x : MetMark) → FitsMet layout words side x → side'.locks ≡ side.locks → FitsMet layout words' side' x
  met_still side side' x was locks = met_on side_of layout published published' words words' views i v w at side side' x was
      (subst (λ ls. Contains ls (lock_of x.place)) (sym locks) was.locked) (same.places x.place was.inside) (same.states x.node was.exists)

  unfreed_still : (node : ℕ) → (node < layout.nodes) × (has_epoch (state_word layout words node) ≡ 1) → (node < layout.nodes) × (has_epoch (state_word layout words' node) ≡ 1)
  unfreed_still node was = (was.0, ap has_epoch (same.states node was.0) ∙ was.1)

  pub marks-same : Marks side_of layout published' words' (set views i w)
  marks-same = marks-changed side_of layout published published' words words' views i v w at
      (λ p node inside is.
      let stood : IsMarkOf layout words p node = sym (same.places p inside) ∙ is in
      let was = kept.placed p node inside stood in
      placed_on side_of layout published published' words words' views i v w at same.goes same.rests p node inside stood was (same.parents node was.exists was.listed) (same.states node was.exists)
      (bare_on layout words words' same.places node was.exists was.bare) (same.listed node was.listed))
      (λ p node inside is c. subst (λ ms. Contains ms (placed_at p node)) (sym same.marks)
      (kept.held i v p node at inside (sym (same.places p inside) ∙ is) (subst (λ ls. Contains ls (Locking.Node node)) same.locks c)))
      (λ j u p node ne e inside is c. kept.held j u p node e inside (sym (same.places p inside) ∙ is) c)
      (λ m c. marked_still (side_of v) (side_of w) m (kept.marks i v m at (subst (λ ms. Contains ms m) same.marks c)) same.locks (same.loaded m c))
      (λ j u m ne e c. marked_still (side_of u) (side_of u) m (kept.marks j u m e c) refl (λ _. refl))
      (λ y is. emptied_still (side_of v) (side_of w) y (kept.emptied i v y at (same.emptied y is)) same.locks same.marks)
      (λ j u y ne e is. emptied_still (side_of u) (side_of u) y (kept.emptied j u y e is) refl refl)
      (λ y is. met_still (side_of v) (side_of w) y (kept.met i v y at (same.met y is)) same.locks)
      (λ j u y ne e is. met_still (side_of u) (side_of u) y (kept.met j u y e is) refl)
      (λ node c. unfreed_still node (kept.unfreed i v node at (subst (λ ns. Contains ns node) same.unfreed c)))
      (λ j u node ne e c. unfreed_still node (kept.unfreed j u node e c))
      (λ node exists e. ⊎_elim
      (λ (mark : HasMark layout words node). inl (record { place = mark.place; inside = mark.inside; stands = same.places mark.place mark.inside ∙ mark.stands }))
      (λ (was : IsUnfreed side_of views node). inr (unfreed_on side_of layout published published' words words' views i v w at node (λ c. subst (λ ns. Contains ns node) (sym same.unfreed) c) was))
      (kept.states node exists (ap has_epoch (sym (same.states node exists)) ∙ e)))

module _ {V : Type 0} (side_of : V → MarkSide) (layout : Layout) (published words : List ℕ) (views : List V) (i : ℕ) (v w : V)
    (kept : Marks side_of layout published words views) (at : get_elem? views i ≡ some v) (step : LoadsEpoch side_of words views v w) where
  loader_rests : (node : ℕ) → RestsIn (side_of w) node → RestsIn (side_of v) node × ((side_of w).protecting ≡ (side_of v).protecting)
  loader_rests node rests = (subst (λ (side : MarkSide). RestsIn side node) step.is rests, ap (λ (side : MarkSide). side.protecting) step.is)

  -- whoever is in a node is protected with the epoch that the table has
  past_now : (node : ℕ) → IsPastNode side_of (epoch_word words) (set views i w) node (epoch_word words)
  past_now node = record {
    reached = omega arith;
    rested = λ j u e rests. ⊎_elim
        (λ (x : (j ≡ i) × (w ≡ u)).
        let mine = loader_rests node (subst (λ (y : V). RestsIn (side_of y) node) (sym x.1) rests) in
        subst (λ (y : V). IsProtectedBy (epoch_word words) (side_of y).protecting) x.1 (subst (IsProtectedBy (epoch_word words)) (sym mine.1) (step.now i v node at mine.0)))
        (λ (x : (j ≢ i) × (get_elem? views j ≡ some u)). step.now j u node x.1 rests)
        (at_set views i j w u e);
  }

  same_rests : (node : ℕ) → HasMark layout words node → RestsIn (side_of w) node → RestsIn (side_of v) node × ((side_of w).protecting ≡ (side_of v).protecting)
  same_rests node mark rests = loader_rests node rests

  pub marks-loading : Marks side_of layout published words (set views i w)
  marks-loading = marks-changed side_of layout published published words words views i v w at
      (λ p node inside is. (let was = kept.placed p node inside is in
      placed_on side_of layout published published words words views i v w at (omega arith) same_rests p node inside is was refl refl was.bare was.listed))
      (λ p node inside is c. subst (λ (side : MarkSide). Contains side.marks (placed_at p node)) (sym step.is)
      (kept.held i v p node at inside is (subst (λ (side : MarkSide). Contains side.locks (Locking.Node node)) step.is c)))
      (λ j u p node ne e inside is c. kept.held j u p node e inside is c)
      (λ m c.
      let was = kept.marks i v m at (subst (λ (side : MarkSide). Contains side.marks m) step.is c) in
      let now = ap (λ (side : MarkSide). side.loaded) step.is in
      record {
        exists = was.exists;
        listed = was.listed;
        locked = subst (λ (side : MarkSide). Contains side.locks (Locking.Node m.node)) (sym step.is) was.locked;
        parent = was.parent;
        bare = was.bare;
        place = was.place;
        inside = was.inside;
        names = was.names;
        hangs = was.hangs;
        stands = was.stands;
        past = λ e some'. subst (IsPastNode side_of (epoch_word words) (set views i w) m.node) (sym now) (past_now m.node);
      })
      (λ j u m ne e c. (let was = kept.marks j u m e c in marked_on side_of layout published published words words views i v w at (omega arith) same_rests
      (side_of u) (side_of u) m was was.locked (λ _. refl) was.listed refl was.bare (λ q inside names. refl)))
      (λ y is.
      let was = kept.emptied i v y at (ap (λ (side : MarkSide). side.emptied) (sym step.is) ∙ is) in
      emptied_on side_of layout published published words words views i v w at (side_of v) (side_of w) y was
      (subst (λ (side : MarkSide). Contains side.locks (Locking.Node y.node)) (sym step.is) was.locked)
      (λ m c. was.unmarked m (subst (λ (side : MarkSide). Contains side.marks m) step.is c)) was.listed refl (λ digit c low. refl))
      (λ j u y ne e is. kept.emptied j u y e is)
      (λ y is.
      let was = kept.met i v y at (ap (λ (side : MarkSide). side.met) (sym step.is) ∙ is) in
      met_on side_of layout published published words words views i v w at (side_of v) (side_of w) y was
      (subst (λ (side : MarkSide). Contains side.locks (lock_of y.place)) (sym step.is) was.locked) refl refl)
      (λ j u y ne e is. kept.met j u y e is)
      (λ node c. kept.unfreed i v node at (subst (λ (side : MarkSide). Contains side.unfreed node) step.is c))
      (λ j u node ne e c. kept.unfreed j u node e c)
      (λ node exists e. ⊎_elim
      (λ (mark : HasMark layout words node). inl mark)
      (λ (was : IsUnfreed side_of views node).
      inr (unfreed_on side_of layout published published words words views i v w at node (λ c. subst (λ (side : MarkSide). Contains side.unfreed node) (sym step.is) c) was))
      (kept.states node exists e))

-- two locks are one, or not
pub one_lock : (a b : Lock) → (a ≡ b) ⊎ (a ≢ b)
one_lock (Locking.Root d) (Locking.Root e) = ⊎_elim (λ same. inl (ap (λ x. Locking.Root x) same)) (λ ne. inr (λ one. let same : d ≡ e = cc in ne same)) (cases_eq d e)
one_lock (Locking.Node m) (Locking.Node n) = ⊎_elim (λ same. inl (ap (λ x. Locking.Node x) same)) (λ ne. inr (λ one. let same : m ≡ n = cc in ne same)) (cases_eq m n)
one_lock (Locking.Root d) (Locking.Node n) = inr (λ one. cc)
one_lock (Locking.Node m) (Locking.Root e) = inr (λ one. cc)

-- the state of what a lock is of
pub at_lock : (layout : Layout) (words : List ℕ) (lock : Lock) (node : ℕ) → lock ≡ Locking.Node node → slice_index words (lock_at layout lock) ≡ state_word layout words node
at_lock layout words lock node is = ap (λ l. slice_index words (lock_at layout l)) is

module _ {V : Type 0} (side_of : V → MarkSide) (layout : Layout) (published words words' : List ℕ) (views : List V) (i : ℕ)
    (lock : Lock) (v w : V) (kept : Marks side_of layout published words views) (at : get_elem? views i ≡ some v)
    (step : GetsLock side_of layout words words' views lock v w) where
  got_rests : (node : ℕ) → HasMark layout words node → RestsIn (side_of w) node → RestsIn (side_of v) node × ((side_of w).protecting ≡ (side_of v).protecting)
  got_rests node mark rests = (step.rests.rests node rests, step.rests.protecting)

  got_goes : epoch_word words ≤ epoch_word words'
  got_goes = let same = step.changes.epoch in omega (arith, same)

  -- the lock isn't that of a node whose state isn't 0
  apart : (node : ℕ) → 1 ≤ state_word layout words node → lock ≢ Locking.Node node
  apart node taken is = let here = at_lock layout words lock node is in let free = step.free in absurd (omega (arith, here, free, taken))

  marked_apart : (p : Place) (node : ℕ) → IsInTrie layout p → IsMarkOf layout words p node → lock ≢ Locking.Node node
  marked_apart p node inside is = apart node (kept.placed p node inside is).taken

  epoch_apart : (node : ℕ) → has_epoch (state_word layout words node) ≡ 1 → lock ≢ Locking.Node node
  epoch_apart node has is =
      let none : state_word layout words node ≡ 0 = sym (at_lock layout words lock node is) ∙ step.free in
      absurd (no_epoch_twice (state_word layout words node) (ap has_epoch none) has)

  was_mark : (p : Place) (node : ℕ) → IsInTrie layout p → IsMarkOf layout words' p node → IsMarkOf layout words p node
  was_mark p node inside is = sym (step.changes.places p inside) ∙ is

  more : (other : Lock) → Contains (side_of v).locks other → Contains (side_of w).locks other
  more other c = subst (λ ls. Contains ls other) (sym step.locks) (Contains-later lock other (side_of v).locks c)

  pub marks-got : Marks side_of layout published words' (set views i w)
  marks-got = marks-changed side_of layout published published words words' views i v w at
      (λ p node inside is.
      let stood = was_mark p node inside is in
      let was = kept.placed p node inside stood in
      placed_on side_of layout published published words words' views i v w at got_goes got_rests p node inside stood was
      (step.changes.parents node was.exists) (step.changes.others node was.exists (marked_apart p node inside stood))
      (bare_on layout words words' step.changes.places node was.exists was.bare) was.listed)
      (λ p node inside is c. ⊎_elim
      (λ (e : lock ≡ Locking.Node node). absurd (marked_apart p node inside (was_mark p node inside is) e))
      (λ (had : Contains (side_of v).locks (Locking.Node node)). subst (λ ms. Contains ms (placed_at p node)) (sym step.marks) (kept.held i v p node at inside (was_mark p node inside is) had))
      (cons_cases lock (Locking.Node node) (side_of v).locks (subst (λ ls. Contains ls (Locking.Node node)) step.locks c)))
      (λ j u p node ne e inside is c. kept.held j u p node e inside (was_mark p node inside is) c)
      (λ m c.
      let was = kept.marks i v m at (subst (λ ms. Contains ms m) step.marks c) in
      marked_on side_of layout published published words words' views i v w at got_goes got_rests (side_of v) (side_of w) m was
      (more (Locking.Node m.node) was.locked) (λ _. step.loaded) was.listed (step.changes.parents m.node was.exists)
      (bare_on layout words words' step.changes.places m.node was.exists was.bare) (λ q inside names. step.changes.places q inside))
      (λ j u m ne e c.
      let was = kept.marks j u m e c in
      marked_on side_of layout published published words words' views i v w at got_goes got_rests (side_of u)
      (side_of u) m was was.locked (λ _. refl) was.listed (step.changes.parents m.node was.exists)
      (bare_on layout words words' step.changes.places m.node was.exists was.bare) (λ q inside names. step.changes.places q inside))
      (λ y is.
      let was = kept.emptied i v y at (sym step.emptied ∙ is) in
      emptied_on side_of layout published published words words' views i v w at (side_of v) (side_of w) y was
      (more (Locking.Node y.node) was.locked) (λ m c. was.unmarked m (subst (λ ms. Contains ms m) step.marks c)) was.listed
      (step.changes.parents y.node was.exists) (λ digit c low. step.changes.places (Places.Node y.node digit) (was.exists, low)))
      (λ j u y ne e is.
      let was = kept.emptied j u y e is in
      emptied_on side_of layout published published words words' views i v w at (side_of u) (side_of u) y was was.locked was.unmarked was.listed
      (step.changes.parents y.node was.exists) (λ digit c low. step.changes.places (Places.Node y.node digit) (was.exists, low)))
      (λ y is.
      let was = kept.met i v y at (sym step.met ∙ is) in
      met_on side_of layout published published words words' views i v w at (side_of v) (side_of w) y was (more (lock_of y.place) was.locked)
      (step.changes.places y.place was.inside) (step.changes.others y.node was.exists (marked_apart y.place y.node was.inside was.stands)))
      (λ j u y ne e is.
      let was = kept.met j u y e is in
      met_on side_of layout published published words words' views i v w at (side_of u) (side_of u) y was was.locked (step.changes.places y.place was.inside)
      (step.changes.others y.node was.exists (marked_apart y.place y.node was.inside was.stands)))
      (λ node c. epoch_stays node (kept.unfreed i v node at (subst (λ ns. Contains ns node) step.unfreed c)))
      (λ j u node ne e c. epoch_stays node (kept.unfreed j u node e c))
      (λ node exists e. ⊎_elim
      (λ (mark : HasMark layout words node). inl (record { place = mark.place; inside = mark.inside; stands = step.changes.places mark.place mark.inside ∙ mark.stands }))
      (λ (was : IsUnfreed side_of views node). inr (unfreed_on side_of layout published published words words' views i v w at node (λ c. subst (λ ns. Contains ns node) (sym step.unfreed) c) was))
      (kept.states node exists (epoch_was node exists e)))
    where
      epoch_stays : (node : ℕ) → (node < layout.nodes) × (has_epoch (state_word layout words node) ≡ 1) → (node < layout.nodes) × (has_epoch (state_word layout words' node) ≡ 1)
      epoch_stays node was = (was.0, ap has_epoch (step.changes.others node was.0 (epoch_apart node was.1)) ∙ was.1)

      epoch_was : (node : ℕ) → node < layout.nodes → has_epoch (state_word layout words' node) ≡ 1 → has_epoch (state_word layout words node) ≡ 1
      epoch_was node exists e = ⊎_elim
          (λ (is : lock ≡ Locking.Node node).
          let one : state_word layout words' node ≡ 1 = sym (at_lock layout words' lock node is) ∙ step.taken in
          absurd (no_epoch_twice (state_word layout words' node) (ap has_epoch one) e))
          (λ (ne : lock ≢ Locking.Node node). ap has_epoch (sym (step.changes.others node exists ne)) ∙ e)
          (one_lock lock (Locking.Node node))

module _ {V : Type 0} (side_of : V → MarkSide) (layout : Layout) (published words words' : List ℕ) (views : List V) (i : ℕ) (lock : Lock)
    (state : ℕ) (v w : V) (kept : Marks side_of layout published words views) (at : get_elem? views i ≡ some v)
    (step : FreesLock side_of layout words words' views i lock state v w) where
  freer_rests : (node : ℕ) → HasMark layout words node → RestsIn (side_of w) node → RestsIn (side_of v) node × ((side_of w).protecting ≡ (side_of v).protecting)
  freer_rests node mark rests = (step.rests.rests node rests, step.rests.protecting)

  freer_goes : epoch_word words ≤ epoch_word words'
  freer_goes = let same = step.changes.epoch in omega (arith, same)

  stood : (p : Place) (node : ℕ) → IsInTrie layout p → IsMarkOf layout words' p node → IsMarkOf layout words p node
  stood p node inside is = sym (step.changes.places p inside) ∙ is

  -- no state with an epoch is that of what was locked
  not_locked : (node : ℕ) → has_epoch (state_word layout words node) ≡ 1 → lock ≢ Locking.Node node
  not_locked node has is =
      let here = at_lock layout words lock node is in
      let held = step.held in
      let low : has_epoch (state_word layout words node) ≡ 0 = low_note (state_word layout words node) (omega (arith, here, held)) in
      absurd (no_epoch_twice (state_word layout words node) low has)

  epoch_not_locked : (node epoch : ℕ) → state_word layout words node ≡ 2 ^ 63 + epoch → lock ≢ Locking.Node node
  epoch_not_locked node epoch has is = let here = at_lock layout words lock node is in let held = step.held in absurd (omega (arith, here, held, has))

  -- where it was of a node whose mark stands, that is let go with an epoch that is past
  goes_past : (s : ℕ) → IsFreedBy (side_of v) lock s → (p : Place) (node : ℕ) → lock ≡ Locking.Node node → Contains (side_of v).marks (placed_at p node) →
      (1 ≤ s) × ((epoch : ℕ) → s ≡ 2 ^ 63 + epoch → IsPastNode side_of (epoch_word words) views node epoch)
  goes_past _ (freed unmarked) p node is c = absurd (unmarked (placed_at p node) c is)
  goes_past _ (let_go m mine placed there some') p node is c =
      let same : m.node ≡ node = (let both : Locking.Node m.node ≡ Locking.Node node = sym there ∙ is in cc) in (
        omega arith,
        λ epoch e.
            let one : (side_of v).loaded ≡ epoch = omega (arith, e) in
            subst (λ (y : ℕ × ℕ). IsPastNode side_of (epoch_word words) views y.0 y.1) (λ t. (same t, one t)) ((kept.marks i v m at mine).past placed some'),
      )

  -- and only then its state has an epoch
  has_mark : (s : ℕ) → IsFreedBy (side_of v) lock s → (node : ℕ) → lock ≡ Locking.Node node → has_epoch s ≡ 1 → HasMark layout words' node
  has_mark _ (freed unmarked) node is e = absurd (no_epoch_twice 0 refl e)
  has_mark _ (let_go m mine placed there some') node is e =
      let same : m.node ≡ node = (let both : Locking.Node m.node ≡ Locking.Node node = sym there ∙ is in cc) in
      let was = kept.marks i v m at mine in
      record { place = was.place; inside = was.inside; stands = subst (λ n. IsMarkOf layout words' was.place n) same (step.changes.places was.place was.inside ∙ was.stands placed) }

  freer_locked : (m : Marked) → lock ≢ Locking.Node m.node → Contains (side_of v).locks (Locking.Node m.node) → Contains (side_of w).locks (Locking.Node m.node)
  freer_locked m ne c = step.left (Locking.Node m.node) c (λ e. ne (sym e))

  placed_freed : (p : Place) (node : ℕ) → IsInTrie layout p → IsMarkOf layout words' p node → FitsPlaced side_of layout published words' (set views i w) p node
  placed_freed p node inside is =
      let was = kept.placed p node inside (stood p node inside is) in
      ⊎_elim
      (λ (here : lock ≡ Locking.Node node).
      let mark = kept.held i v p node at inside (stood p node inside is) (subst (λ l. Contains (side_of v).locks l) here step.mine) in
      let goes = goes_past state step.by p node here mark in
      let now : state_word layout words' node ≡ state = sym (at_lock layout words' lock node here) ∙ step.stored in
      record {
        exists = was.exists;
        listed = was.listed;
        parent = step.changes.parents node was.exists ∙ was.parent;
        bare = bare_on layout words words' step.changes.places node was.exists was.bare;
        taken = subst (λ n. 1 ≤ n) (sym now) goes.0;
        left = λ epoch e. past_on side_of layout published published words words' views i v w at freer_goes node epoch
            (λ rests. (step.rests.rests node rests, step.rests.protecting)) (goes.1 epoch (sym now ∙ e));
      })
      (λ (ne : lock ≢ Locking.Node node). placed_on side_of layout published published words words' views i v w at freer_goes freer_rests p node inside
      (stood p node inside is) was (step.changes.parents node was.exists) (step.changes.others node was.exists ne)
      (bare_on layout words words' step.changes.places node was.exists was.bare) was.listed)
      (one_lock lock (Locking.Node node))

  pub marks-freed : Marks side_of layout published words' (set views i w)
  marks-freed = marks-changed side_of layout published published words words' views i v w at
      placed_freed
      (λ p node inside is c.
      let had = step.fewer (Locking.Node node) c in
      step.marked (placed_at p node) (kept.held i v p node at inside (stood p node inside is) had.0) (λ e. had.1 (sym e)))
      (λ j u p node ne e inside is c. kept.held j u p node e inside (stood p node inside is) c)
      (λ m c.
      let had = step.marks m c in
      let was = kept.marks i v m at had.0 in
      marked_on side_of layout published published words words' views i v w at freer_goes freer_rests (side_of v) (side_of w) m was
      (freer_locked m had.1 was.locked) (λ _. step.loaded) was.listed (step.changes.parents m.node was.exists)
      (bare_on layout words words' step.changes.places m.node was.exists was.bare) (λ q inside names. step.changes.places q inside))
      (λ j u m ne e c.
      let was = kept.marks j u m e c in
      marked_on side_of layout published published words words' views i v w at freer_goes freer_rests (side_of u)
      (side_of u) m was was.locked (λ _. refl) was.listed (step.changes.parents m.node was.exists)
      (bare_on layout words words' step.changes.places m.node was.exists was.bare) (λ q inside names. step.changes.places q inside))
      (λ y is. absurd (let no : None ≡ Some y = sym step.emptied ∙ is in cc))
      (λ j u y ne e is.
      let was = kept.emptied j u y e is in
      emptied_on side_of layout published published words words' views i v w at (side_of u) (side_of u) y was was.locked was.unmarked was.listed
      (step.changes.parents y.node was.exists) (λ digit c low. step.changes.places (Places.Node y.node digit) (was.exists, low)))
      (λ y is. absurd (let no : None ≡ Some y = sym step.met ∙ is in cc))
      (λ j u y ne e is.
      let was = kept.met j u y e is in
      record {
        inside = was.inside;
        exists = was.exists;
        locked = was.locked;
        stands = step.changes.places y.place was.inside ∙ was.stands;
        left = λ epoch had. (let old = was.left epoch had in step.changes.others y.node was.exists (epoch_not_locked y.node epoch old) ∙ old);
      })
      (λ node c. epoch_left node (kept.unfreed i v node at (subst (λ ns. Contains ns node) step.unfreed c)))
      (λ j u node ne e c. epoch_left node (kept.unfreed j u node e c))
      states_freed
    where
      epoch_left : (node : ℕ) → (node < layout.nodes) × (has_epoch (state_word layout words node) ≡ 1) → (node < layout.nodes) × (has_epoch (state_word layout words' node) ≡ 1)
      epoch_left node was = (was.0, ap has_epoch (step.changes.others node was.0 (not_locked node was.1)) ∙ was.1)

      states_freed : (node : ℕ) → node < layout.nodes → has_epoch (state_word layout words' node) ≡ 1 → HasMark layout words' node ⊎ IsUnfreed side_of (set views i w) node
      states_freed node exists e = ⊎_elim
          (λ (here : lock ≡ Locking.Node node). inl (has_mark state step.by node here (ap has_epoch (sym step.stored ∙ at_lock layout words' lock node here) ∙ e)))
          (λ (ne : lock ≢ Locking.Node node). ⊎_elim
          (λ (mark : HasMark layout words node). inl (record { place = mark.place; inside = mark.inside; stands = step.changes.places mark.place mark.inside ∙ mark.stands }))
          (λ (was : IsUnfreed side_of views node). inr (unfreed_on side_of layout published published words words' views i v w at node (λ c. subst (λ ns. Contains ns node) (sym step.unfreed) c) was))
          (kept.states node exists (ap has_epoch (sym (step.changes.others node exists ne)) ∙ e)))
          (one_lock lock (Locking.Node node))
