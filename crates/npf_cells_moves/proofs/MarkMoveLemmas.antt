-- The part on marks stays where a seat comes or goes that has no marks, and through a load of the epoch.
use Rattle.std.specs.List.{Contains}
use Rattle.std.proofs.Common.{◌≡◌, ◌≢◌, ◌⊎◌, ℕ, ◌<◌, ◌≤◌, Option, Some, None, List, [], ◌∷◌, ◌++◌, set, slice_index, refl, sym, ap, ◌∙◌, subst, ⊎_elim, inl, inr, arith}
use Rattle.std.proofs.lemmas.{Bool.cases_eq, List.{set-get_or, Elements.{Contains-append_cases, Contains-append_left, Contains-append_right}}}
use mathlib.Core.Option.{some, some-injective}
use lib.ListN.{get_elem?}
use Rattle.atomic_table.{specs.Table.State, proofs.Lists.{at_longer, at_map, at_set, at_snoc, set_else}}
use Rattle.npf_types.specs.declared.key.Key.{Key}
use Rattle.npf_core.specs.Meaning.{Meaning}
use Rattle.npf_paths.specs.declared.place.Lock.TheVariants as Locking
use Rattle.npf_paths.specs.declared.place.Place.{Place}
use Rattle.npf_cells_words.specs.{declared.{layout.Layout.Layout, mark.{Emptied.Emptied, Marked.Marked, MetMark.MetMark}}, Layout.epoch_word}
use Rattle.npf_cells_words.specs.{MarkWords.IsMarkOf, Places.IsInTrie}
use Rattle.npf_seats.proofs.{PrefixLemmas.none_listed, SumLemmas.set_there}
use Rattle.npf_cells_pins.specs.{declared.pin.Pin.{Pin, TheVariants.{Idle, Pinned, Protected}}, Epochs.PinAllows, Pinning.loading}
use Rattle.npf_cells_lives.specs.{Deaths.IsProtectedBy, Turns.Running}
use Rattle.npf_cells_marks.specs.Marks.{MarkSide, RestsIn, IsPastNode, FitsEmptied, FitsMarked, FitsMet, IsUnfreed, Marks}
use Rattle.npf_cells_marks.proofs.{MarkLemmas.{placed_at, unfreed_on}, StepLemmas.marks-loading}
use Rattle.npf_cells_rule.specs.{declared.view.CellView.CellView, Cells.IsCells, Passes.IsProtected}
use Rattle.npf_cells_rule.{specs.Views.{reader_view, protecting_epoch, mark_side, nothing_left}, proofs.MarkFrames.in_none}
use Rattle.npf_cells_moves.specs.Moves.{gives_reader, given_view, takes_in}

-- a seat without marks, in no node
abbrev pub unmarked_side : MarkSide
unmarked_side = record { marks = []; emptied = None; met = None; unfreed = []; locks = []; loaded = 0; protecting = None; stands = None; saw = None }

nowhere : (node : ℕ) → ¬ (RestsIn unmarked_side node)
nowhere node rests = ⊎_elim (λ no. no) (λ no. no) rests

-- where a seat's side comes from: it is one without marks, or that of a seat but for the nodes that it got back
pub data CameFrom {V : Type 0} (side_of : V → MarkSide) (views : List V) (side : MarkSide) : Type 0 where
  nobody : side ≡ unmarked_side → CameFrom side_of views side
  from_seat : (j : ℕ) (u : V) → get_elem? views j ≡ some u → side ≡ record (side_of u) { unfreed = side.unfreed } → CameFrom side_of views side

module _ {V : Type 0} (side_of : V → MarkSide) (layout : Layout) (published words : List ℕ) (views views' : List V) (kept : Marks side_of layout published words views)
    (from : (j : ℕ) (u : V) → get_elem? views' j ≡ some u → CameFrom side_of views (side_of u)) where
  past_moved : (node epoch : ℕ) → IsPastNode side_of (epoch_word words) views node epoch → IsPastNode side_of (epoch_word words) views' node epoch
  past_moved node epoch past = record { reached = past.reached; rested = λ j u e rests. rested_by (side_of u) (from j u e) rests }
    where
      rested_by : (side : MarkSide) → CameFrom side_of views side → RestsIn side node → IsProtectedBy epoch side.protecting
      rested_by side (nobody bare) rests = absurd (nowhere node (subst (λ (x : MarkSide). RestsIn x node) bare rests))
      rested_by side (from_seat j u there same) rests =
          subst (IsProtectedBy epoch) (ap (λ (x : MarkSide). x.protecting) (sym same)) (past.rested j u there (subst (λ (x : MarkSide). RestsIn x node) same rests))

  held_moved : (side : MarkSide) (p : Place) (node : ℕ) → CameFrom side_of views side → IsInTrie layout p →
      IsMarkOf layout words p node → Contains side.locks (Locking.Node node) → Contains side.marks (placed_at p node)
  held_moved side p node (nobody bare) inside is c = absurd (none_listed (Locking.Node node) (subst (λ (x : MarkSide). Contains x.locks (Locking.Node node)) bare c))
  held_moved side p node (from_seat j u there same) inside is c =
      subst (λ (x : MarkSide). Contains x.marks (placed_at p node)) (sym same) (kept.held j u p node there inside is (subst (λ (x : MarkSide). Contains x.locks (Locking.Node node)) same c))

  marked_moved : (side : MarkSide) (mark : Marked) → CameFrom side_of views side → Contains side.marks mark → FitsMarked side_of layout published words views' side mark
  marked_moved side mark (nobody bare) c = absurd (none_listed mark (subst (λ (x : MarkSide). Contains x.marks mark) bare c))
  marked_moved side mark (from_seat j u there same) c =
      let was = kept.marks j u mark there (subst (λ (x : MarkSide). Contains x.marks mark) same c) in
      subst (λ (x : MarkSide). FitsMarked side_of layout published words views' x mark) (sym same) (record {
        exists = was.exists;
        listed = was.listed;
        locked = was.locked;
        parent = was.parent;
        bare = was.bare;
        place = was.place;
        inside = was.inside;
        names = was.names;
        hangs = was.hangs;
        stands = was.stands;
        past = λ e some'. past_moved mark.node (side_of u).loaded (was.past e some');
      })

  emptied_moved : (side : MarkSide) (y : Emptied) → CameFrom side_of views side → side.emptied ≡ Some y → FitsEmptied layout published words side y
  emptied_moved side y (nobody bare) is = absurd (let no : None ≡ Some y = ap (λ (x : MarkSide). x.emptied) (sym bare) ∙ is in cc)
  emptied_moved side y (from_seat j u there same) is =
      let was = kept.emptied j u y there (ap (λ (x : MarkSide). x.emptied) (sym same) ∙ is) in
      subst (λ (x : MarkSide). FitsEmptied layout published words x y) (sym same) (record {
        exists = was.exists;
        listed = was.listed;
        locked = was.locked;
        unmarked = was.unmarked;
        parent = was.parent;
        bare = was.bare;
      })

  met_moved : (side : MarkSide) (y : MetMark) → CameFrom side_of views side → side.met ≡ Some y → FitsMet layout words side y
  met_moved side y (nobody bare) is = absurd (let no : None ≡ Some y = ap (λ (x : MarkSide). x.met) (sym bare) ∙ is in cc)
  met_moved side y (from_seat j u there same) is =
      let was = kept.met j u y there (ap (λ (x : MarkSide). x.met) (sym same) ∙ is) in
      subst (λ (x : MarkSide). FitsMet layout words x y) (sym same) (record { inside = was.inside; exists = was.exists; locked = was.locked; stands = was.stands; left = was.left })

  -- the words stay, and each seat comes from one, or has no marks; and the nodes that seats got back are the same
  pub marks-moved : ((j : ℕ) (u : V) (node : ℕ) → get_elem? views' j ≡ some u → Contains (side_of u).unfreed node → IsUnfreed side_of views node) →
      ((node : ℕ) → IsUnfreed side_of views node → IsUnfreed side_of views' node) → Marks side_of layout published words views'
  marks-moved back forth = record {
    placed = λ p node inside is. (let was = kept.placed p node inside is in record {
      exists = was.exists;
      listed = was.listed;
      parent = was.parent;
      bare = was.bare;
      taken = was.taken;
      left = λ epoch e. past_moved node epoch (was.left epoch e);
    });
    held = λ j u p node e inside is c. held_moved (side_of u) p node (from j u e) inside is c;
    marks = λ j u mark e c. marked_moved (side_of u) mark (from j u e) c;
    emptied = λ j u y e is. emptied_moved (side_of u) y (from j u e) is;
    met = λ j u y e is. met_moved (side_of u) y (from j u e) is;
    unfreed = λ j u node e c. (let was = back j u node e c in kept.unfreed was.seat was.view node was.there was.has);
    states = λ node exists e. ⊎_elim (λ mark. inl mark) (λ was. inr (forth node was)) (kept.states node exists e);
  }

module _ {S A R : Type 0} (m : Meaning S A R) (digest : Key → ℕ) (layout : Layout) (s : State (Running S) (CellView S A R))
    (id : ℕ) (v : CellView S A R) (kept : IsCells m digest layout s) (at : get_elem? s.views id ≡ some v) where
  -- whoever may be in a node is protected, with no later epoch than the table's
  in_now : (j : ℕ) (u : CellView S A R) (node : ℕ) → get_elem? s.views j ≡ some u → RestsIn (mark_side u) node → IsProtectedBy (epoch_word s.words) (protecting_epoch u.epochs.pin)
  in_now j u node e rests = by_pin u.epochs.pin refl
    where
      walks : ¬ (IsProtected u.epochs.pin) → ⊥
      walks out = in_none u node ((kept.alone j u e).out out) rests

      by_pin : (pin : Pin) → u.epochs.pin ≡ pin → IsProtectedBy (epoch_word s.words) (protecting_epoch pin)
      by_pin Idle is = absurd (walks (λ stays. subst IsProtected is stays))
      by_pin (Pinned pinned) is = absurd (walks (λ stays. subst IsProtected is stays))
      by_pin (Protected pinned epoch) is = (subst (λ (pin : Pin). PinAllows pin (epoch_word s.words)) is (kept.epochs.each j (reader_view u) (at_map reader_view s.views j u e)).guards).1

  pub marks_loaded : Marks mark_side layout kept.published (set s.words 0 (epoch_word s.words)) (set s.views id (record v { epochs = loading v.epochs (epoch_word s.words) }))
  marks_loaded = subst (λ ws. Marks mark_side layout kept.published ws (set s.views id (record v { epochs = loading v.epochs (epoch_word s.words) }))) (sym (set-get_or s.words 0 0))
      (marks-loading mark_side layout kept.published s.words s.views id v (record v { epochs = loading v.epochs (epoch_word s.words) }) kept.marks at
      (record { is = refl; now = λ j u node e rests. in_now j u node e rests }))

  -- where the seat is split
  pub marks_split : Marks mark_side layout kept.published s.words (set s.views id (gives_reader v) ++ given_view v ∷ [])
  marks_split = marks-moved mark_side layout kept.published s.words s.views (set s.views id (gives_reader v) ++ given_view v ∷ []) kept.marks from back forth
    where
      from : (j : ℕ) (u : CellView S A R) → get_elem? (set s.views id (gives_reader v) ++ given_view v ∷ []) j ≡ some u → CameFrom mark_side s.views (mark_side u)
      from j u e = ⊎_elim
          (λ (old : get_elem? (set s.views id (gives_reader v)) j ≡ some u). ⊎_elim
          (λ (x : (j ≡ id) × (gives_reader v ≡ u)). subst (λ (y : CellView S A R). CameFrom mark_side s.views (mark_side y)) x.1 (from_seat id v at refl))
          (λ (x : (j ≢ id) × (get_elem? s.views j ≡ some u)). from_seat j u x.1 refl)
          (at_set s.views id j (gives_reader v) u old))
          (λ (x : given_view v ≡ u). subst (λ (y : CellView S A R). CameFrom mark_side s.views (mark_side y)) x (nobody refl))
          (at_snoc (set s.views id (gives_reader v)) (given_view v) u j e)

      back : (j : ℕ) (u : CellView S A R) (node : ℕ) → get_elem? (set s.views id (gives_reader v) ++ given_view v ∷ []) j ≡ some u → Contains u.pools.unfreed node → IsUnfreed mark_side s.views node
      back j u node e c = ⊎_elim
          (λ (old : get_elem? (set s.views id (gives_reader v)) j ≡ some u). ⊎_elim
          (λ (x : (j ≡ id) × (gives_reader v ≡ u)). record { seat = id; view = v; there = at; has = subst (λ (y : CellView S A R). Contains y.pools.unfreed node) (sym x.1) c })
          (λ (x : (j ≢ id) × (get_elem? s.views j ≡ some u)). record { seat = j; view = u; there = x.1; has = c })
          (at_set s.views id j (gives_reader v) u old))
          (λ (x : given_view v ≡ u). absurd (none_listed node (subst (λ (y : CellView S A R). Contains y.pools.unfreed node) (sym x) c)))
          (at_snoc (set s.views id (gives_reader v)) (given_view v) u j e)

      forth : (node : ℕ) → IsUnfreed mark_side s.views node → IsUnfreed mark_side (set s.views id (gives_reader v) ++ given_view v ∷ []) node
      forth node was =
          let on = unfreed_on mark_side layout kept.published kept.published s.words s.words s.views id v (gives_reader v) at node (λ c. c) was in
          record { seat = on.seat; view = on.view; there = at_longer (set s.views id (gives_reader v)) (given_view v ∷ []) on.seat on.view on.there; has = on.has }

  -- and where another is joined into it
  module _ (other : ℕ) (w : CellView S A R) (apart : other ≢ id) (was : get_elem? s.views other ≡ some w) where
    abbrev joined : List (CellView S A R)
    joined = set (set s.views id (takes_in v w)) other nothing_left

    taker_there : get_elem? joined id ≡ some (takes_in v w)
    taker_there = set_else (set s.views id (takes_in v w)) other id nothing_left (λ e. apart (sym e)) ∙ set_there s.views id v (takes_in v w) at

    joined_from : (j : ℕ) (u : CellView S A R) → get_elem? joined j ≡ some u → CameFrom mark_side s.views (mark_side u)
    joined_from j u e = ⊎_elim
        (λ (x : (j ≡ other) × (nothing_left ≡ u)). subst (λ (y : CellView S A R). CameFrom mark_side s.views (mark_side y)) x.1 (nobody refl))
        (λ (x : (j ≢ other) × (get_elem? (set s.views id (takes_in v w)) j ≡ some u)). ⊎_elim
        (λ (y : (j ≡ id) × (takes_in v w ≡ u)). subst (λ (z : CellView S A R). CameFrom mark_side s.views (mark_side z)) y.1 (from_seat id v at refl))
        (λ (y : (j ≢ id) × (get_elem? s.views j ≡ some u)). from_seat j u y.1 refl)
        (at_set s.views id j (takes_in v w) u x.1))
        (at_set (set s.views id (takes_in v w)) other j nothing_left u e)

    joined_back : (j : ℕ) (u : CellView S A R) (node : ℕ) → get_elem? joined j ≡ some u → Contains u.pools.unfreed node → IsUnfreed mark_side s.views node
    joined_back j u node e c = ⊎_elim
        (λ (x : (j ≡ other) × (nothing_left ≡ u)). absurd (none_listed node (subst (λ (y : CellView S A R). Contains y.pools.unfreed node) (sym x.1) c)))
        (λ (x : (j ≢ other) × (get_elem? (set s.views id (takes_in v w)) j ≡ some u)). ⊎_elim
        (λ (y : (j ≡ id) × (takes_in v w ≡ u)). ⊎_elim
        (λ (mine : Contains v.pools.unfreed node). record { seat = id; view = v; there = at; has = mine })
        (λ (theirs : Contains w.pools.unfreed node). record { seat = other; view = w; there = was; has = theirs })
        (Contains-append_cases v.pools.unfreed w.pools.unfreed node (subst (λ (z : CellView S A R). Contains z.pools.unfreed node) (sym y.1) c)))
        (λ (y : (j ≢ id) × (get_elem? s.views j ≡ some u)). record { seat = j; view = u; there = y.1; has = c })
        (at_set s.views id j (takes_in v w) u x.1))
        (at_set (set s.views id (takes_in v w)) other j nothing_left u e)

    joined_forth : (node : ℕ) → IsUnfreed mark_side s.views node → IsUnfreed mark_side joined node
    joined_forth node has = ⊎_elim
        (λ (theirs : has.seat ≡ other).
        let one : has.view ≡ w = some-injective has.view w (sym has.there ∙ (ap (get_elem? s.views) theirs ∙ was)) in
        record {
          seat = id;
          view = takes_in v w;
          there = taker_there;
          has = Contains-append_right v.pools.unfreed w.pools.unfreed node (subst (λ (y : CellView S A R). Contains y.pools.unfreed node) one has.has);
        })
        (λ (ne : has.seat ≢ other). ⊎_elim
        (λ (mine : has.seat ≡ id).
        let one : has.view ≡ v = some-injective has.view v (sym has.there ∙ (ap (get_elem? s.views) mine ∙ at)) in
        record {
          seat = id;
          view = takes_in v w;
          there = taker_there;
          has = Contains-append_left v.pools.unfreed w.pools.unfreed node (subst (λ (y : CellView S A R). Contains y.pools.unfreed node) one has.has);
        })
        (λ (ne' : has.seat ≢ id). record {
          seat = has.seat;
          view = has.view;
          there = set_else (set s.views id (takes_in v w)) other has.seat nothing_left ne ∙ (set_else s.views id has.seat (takes_in v w) ne' ∙ has.there);
          has = has.has;
        })
        (cases_eq has.seat id))
        (cases_eq has.seat other)

    pub marks_joined : Marks mark_side layout kept.published s.words joined
    marks_joined = marks-moved mark_side layout kept.published s.words s.views joined kept.marks joined_from joined_back joined_forth
