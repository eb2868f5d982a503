-- Kinds 1 to 6 keep the rule: each by its part and the frame of a step on the epoch or a reader word.
use Rattle.std.proofs.Common.{true, ◌≡◌, ◌≢◌, ℕ, ◌+◌, ◌^◌, ◌<◌, ◌≤◌, max, cond, eqb, eq-eqb, ne_eqb, List, [], map, set, length, slice_index, refl, sym, ap, ◌∙◌, subst, arith}
use Rattle.std.proofs.lemmas.List.{get_or-set_same, get_or-set_other, set-get_or}
use mathlib.Core.Option.{some}
use lib.ListN.{get_elem?}
use prog.Atomic.{either}
use Rattle.atomic_table.{specs.{Seated.TableId, Table.{State, Me, Act, Step, stepped, Allows, carried_after, Valid, keeps}}, proofs.Lists.{at_map, exchanged}}
use Rattle.npf_types.specs.declared.key.Key.{Key}
use Rattle.npf_core.specs.{History.state_of, Meaning.Meaning}
use Rattle.npf_connections.specs.{Pass.all_places, Worn.last_epoch}
use Rattle.npf_cells_words.specs.{declared.layout.{Layout.Layout, Pool.TheVariants.Slots}, Layout.{reader_at, epoch_word, reader_word, field_at, notes_field}}
use Rattle.npf_seats.{specs.Sums.occurs, proofs.{SeatLemmas.{one_owner, owned_within}, SumLemmas.{from_map, first_occurs}}}
use Rattle.npf_cells_pins.specs.declared.pin.{EpochSide.EpochSide, Pin.{Pin, TheVariants.{Idle, Pinned}}}
use Rattle.npf_cells_pins.specs.Epochs.{ReaderView, pin_place, pin_word, PinAllows, NotProtectedBefore, Epochs, HasScannedAll}
use Rattle.npf_cells_pins.{specs.Pinning.{loading, pinning, protecting, unpinning, scanning, advancing, passes_by}, proofs.EpochLemmas.{Change, changed}}
use Rattle.npf_cells_pins.proofs.KindLemmas.{is_met, loads, protects, scans, stores, advances, misses}
use Rattle.npf_cells_leaves.{specs.{declared.trie.TrieSide.TrieSide, Trie.{HasNoWalk, forgetting}}, proofs.TrieLemmas.{KnowsNoMore, knows_same, knows_less}}
use Rattle.npf_cells_lives.specs.{Conns.entry_seat, Deaths.Deaths, Turns.Running}
use Rattle.npf_cells_marks.specs.Marks.{Marks}
use Rattle.npf_cells_rule.specs.{declared.view.CellView.CellView, Cells.{FitsAlone, IsCells}, Passes.{IsPassOf, IsProtected}}
use Rattle.npf_cells_rule.specs.Views.{seat_side, reader_view, death_side, mark_side, with_epochs}
use Rattle.npf_cells_rule.proofs.{DeathFrames.{rests_less, rests_none, deaths_on, deaths_load}, Frames.{epochs_step, alone_still, alone_within}}
use Rattle.npf_cells_rule.proofs.{MarkFrames.{marks_on, marks_out, meets_less, meets_same, words_behind, words_loaded}, SoleLemmas.raised_alone}
use Rattle.npf_cells_rule.proofs.StoodLemmas.{stood_so}
use Rattle.npf_cells_moves.proofs.{LoadLemmas.deaths_loading, MarkMoveLemmas.marks_loaded}
use Rattle.npf_cells_moves.specs.Kinds.{unpinned, Loads, Pins, Protects, Unpins, Scans, RaisesEpoch}

module _ {S A R : Type 0} (m : Meaning S A R) (digest : Key → ℕ) (layout : Layout) where
  module _ (s : State (Running S) (CellView S A R)) (id : ℕ) (c : List (ℕ × Running S)) (v : CellView S A R) (kept : IsCells m digest layout s) (at : get_elem? s.views id ≡ some v) where
    abbrev now : ℕ
    now = epoch_word s.words

    abbrev reader : ℕ → ℕ
    reader = reader_word s.words

    abbrev readings : List ReaderView
    readings = map reader_view s.views

    pub there : get_elem? readings id ≡ some (reader_view v)
    there = at_map reader_view s.views id v at

    -- a load, which changes this side alone
    pub load_keeps : (i : ℕ) (side : EpochSide) → FitsAlone (record v { epochs = side }) → Change now reader readings id (record { places = v.seats.readers; side = side }) →
        Deaths death_side layout (state_of m kept.log) (set s.words i (slice_index s.words i)) (set s.views id (record v { epochs = side })) →
        Marks mark_side layout kept.published (set s.words i (slice_index s.words i)) (set s.views id (record v { epochs = side })) →
        IsCells m digest layout (stepped s i (slice_index s.words i) id c (record v { epochs = side }) keeps)
    load_keeps i side alone change deaths marks = epochs_step m digest layout s i (slice_index s.words i) id c v (record v { epochs = side }) kept at refl refl
        (knows_same v.trie) refl alone (λ j h. ap (λ ws. slice_index ws j) (set-get_or s.words i 0))
        (subst (λ (ws : List ℕ). Epochs (epoch_word ws) (reader_word ws) (set readings id (record { places = v.seats.readers; side = side }))) (sym (set-get_or s.words i 0))
        (changed now now reader reader readings id (record { places = v.seats.readers; side = side }) kept.epochs change))
        deaths
        marks

    -- the places of seats are of the table, and no two seats own one
    pub within : (j place : ℕ) (q : ReaderView) → get_elem? readings j ≡ some q → 1 ≤ occurs place q.places → place < all_places
    within j place q e owns =
        let x = from_map reader_view s.views j q e in
        let same : occurs place x.0.seats.readers ≡ occurs place q.places = ap (λ (u : ReaderView). occurs place u.places) x.2 in
        owned_within entry_seat layout.slots all_places kept.log (map seat_side s.views) j place x.0.seats kept.seats (at_map seat_side s.views j x.0 x.1) (omega (arith, same, owns))

    pub apart : (place : ℕ) → 1 ≤ occurs place v.seats.readers → (j : ℕ) (q : ReaderView) → j ≢ id → get_elem? readings j ≡ some q → 1 ≤ occurs place q.places → ⊥
    apart place owns j q ne e theirs =
        let x = from_map reader_view s.views j q e in
        let same : occurs place x.0.seats.readers ≡ occurs place q.places = ap (λ (u : ReaderView). occurs place u.places) x.2 in
        one_owner entry_seat layout.slots all_places kept.log (map seat_side s.views) j id place x.0.seats v.seats kept.seats
        (at_map seat_side s.views j x.0 x.1) (at_map seat_side s.views id v at) ne (omega (arith, same, theirs)) owns

    pub room : (place : ℕ) → place < all_places → reader_at place < length s.words
    room place h = let a = kept.connections.reach in omega (arith, a, h)

    -- a store of the own reader word
    pub store_keeps : (place : ℕ) (pin : Pin) (trie : TrieSide) → KnowsNoMore v.trie trie → place ≡ pin_place v.seats.readers → 1 ≤ length v.seats.readers →
        PinAllows pin now → ((n : ℕ) → NotProtectedBefore n pin) → FitsAlone (record v { epochs = record v.epochs { pin = pin }; trie = trie }) → HasNoWalk trie →
        IsCells m digest layout (stepped s (reader_at place) (pin_word pin) id c (record v { epochs = record v.epochs { pin = pin }; trie = trie }) keeps)
    store_keeps place pin trie less is some' guards free alone out =
        let owns : 1 ≤ occurs place v.seats.readers = subst (λ p. 1 ≤ occurs p v.seats.readers) (sym is) (first_occurs v.seats.readers some') in
        let below = within id place (reader_view v) there owns in
        let long = room place below in
        let words' : List ℕ = set s.words (reader_at place) (pin_word pin) in
        let epoch : epoch_word words' ≡ now = get_or-set_other s.words (reader_at place) 0 (pin_word pin) 0 (λ e. absurd (omega (arith, e))) in
        epochs_step m digest layout s (reader_at place) (pin_word pin) id c v (record v { epochs = record v.epochs { pin = pin }; trie = trie }) kept at refl refl less refl alone
        (λ j h. get_or-set_other s.words (reader_at place) j (pin_word pin) 0 (λ e. absurd (omega (arith, e, h, below))))
        (subst (λ n. Epochs n (reader_word words') (set readings id (record { places = v.seats.readers; side = record v.epochs { pin = pin } }))) (sym epoch)
        (changed now now reader (reader_word words') readings id (record { places = v.seats.readers; side = record v.epochs { pin = pin } }) kept.epochs
        (stores now reader readings id (reader_view v) kept.epochs there (reader_word words') pin some'
        (ap (reader_word words') (sym is) ∙ get_or-set_same s.words (reader_at place) (pin_word pin) 0 long)
        (λ p ne. get_or-set_other s.words (reader_at place) (reader_at p) (pin_word pin) 0 (λ e. ne (omega (arith, e, is))))
        (λ j q ne e theirs. apart place owns j q ne e (subst (λ p. 1 ≤ occurs p q.places) (sym is) theirs))
        guards free)))
        (deaths_on m digest layout s (reader_at place) (pin_word pin) id v (record v { epochs = record v.epochs { pin = pin }; trie = trie }) kept at refl refl
        (rests_none (state_of m kept.log) v (record v { epochs = record v.epochs { pin = pin }; trie = trie }) out)
        (omega (arith, epoch)) (λ slot h. get_or-set_other s.words (reader_at place) (field_at layout Slots slot notes_field) (pin_word pin) 0 (λ e. absurd (omega (arith, e, below)))))
        (marks_out m digest layout s kept words' id v (record v { epochs = record v.epochs { pin = pin }; trie = trie }) at
        (words_behind layout kept.published s.words words' (omega (arith, epoch)) (λ j h. get_or-set_other s.words (reader_at place) j (pin_word pin) 0 (λ e. absurd (omega (arith, e, h, below)))))
        (meets_less v.trie trie less) refl (λ _. refl) out)

    -- the epoch is raised
    pub raise_keeps : (greatest known raises : ℕ) → now ≡ v.epochs.loaded → v.epochs.loaded < 2 ^ 62 → HasScannedAll v.epochs →
        greatest ≤ v.epochs.loaded + 1 → known ≤ v.epochs.loaded + 1 → raises ≡ v.epochs.raises + 1 → 1 ≤ length v.seats.readers →
        IsCells m digest layout (stepped s 0 (v.epochs.loaded + 1) id c (record v { epochs = record v.epochs { met = now; greatest = greatest; known = known; raises = raises } }) keeps)
    raise_keeps greatest known raises same below all found le once place =
        let words' : List ℕ = set s.words 0 (v.epochs.loaded + 1) in
        let a = kept.connections.reach in
        let epoch : epoch_word words' ≡ v.epochs.loaded + 1 = get_or-set_same s.words 0 (v.epochs.loaded + 1) 0 (omega (arith, a)) in
        epochs_step m digest layout s 0 (v.epochs.loaded + 1) id c v
        (record v { epochs = record v.epochs { met = now; greatest = greatest; known = known; raises = raises } }) kept at refl refl (knows_same v.trie) refl
        (alone_still v (record v { epochs = record v.epochs { met = now; greatest = greatest; known = known; raises = raises } }) (kept.alone id v at) place refl (λ none. none))
        (λ j h. get_or-set_other s.words 0 j (v.epochs.loaded + 1) 0 (λ e. absurd (omega (arith, e, h))))
        (subst (λ n. Epochs n (reader_word words') (set readings id (record { places = v.seats.readers; side = record v.epochs { met = now; greatest = greatest; known = known; raises = raises } })))
        (sym epoch)
        (changed now (v.epochs.loaded + 1) reader (reader_word words') readings id (record {
          places = v.seats.readers;
          side = record v.epochs { met = now; greatest = greatest; known = known; raises = raises };
        }) kept.epochs
        (advances now reader readings id (reader_view v) kept.epochs there (reader_word words') now greatest known raises same below all found le once
        (λ p. get_or-set_other s.words 0 (reader_at p) (v.epochs.loaded + 1) 0 (λ e. absurd (omega (arith, e))))
        within)))
        (deaths_on m digest layout s 0 (v.epochs.loaded + 1) id v (record v { epochs = record v.epochs { met = now; greatest = greatest; known = known; raises = raises } }) kept at refl refl
        (rests_less (state_of m kept.log) v (record v { epochs = record v.epochs { met = now; greatest = greatest; known = known; raises = raises } }) (knows_same v.trie) refl)
        (omega (arith, epoch, same))
        (λ slot h. get_or-set_other s.words 0 (field_at layout Slots slot notes_field) (v.epochs.loaded + 1) 0 (λ e. absurd (omega (arith, e)))))
        (marks_on m digest layout s kept words' id v (record v { epochs = record v.epochs { met = now; greatest = greatest; known = known; raises = raises } }) at
        (words_behind layout kept.published s.words words' (omega (arith, epoch, same)) (λ j h. get_or-set_other s.words 0 j (v.epochs.loaded + 1) 0 (λ e. absurd (omega (arith, e, h)))))
        (meets_same v.trie) refl (λ _. refl) refl)

  pub may_load : (st : Step (Running S)) (id n : ℕ) (me : Me (Running S) (CellView S A R)) → 1 ≤ length me.0.seats.readers → Allows (IsCells m digest layout) n id me 0 (λ k. k) (Loads st me)
  may_load st id n me place s kept homes at bound = (
    record me.0 { epochs = loading me.0.epochs (epoch_word s.words) },
    keeps,
    tt,
    load_keeps s id me.1 me.0 kept at 0 (loading me.0.epochs (epoch_word s.words))
        (alone_still me.0 (record me.0 { epochs = loading me.0.epochs (epoch_word s.words) }) (kept.alone id me.0 at) place refl (λ none. none))
        (loads (epoch_word s.words) (reader_word s.words) (map reader_view s.views) id (reader_view me.0) kept.epochs (there s id me.1 me.0 kept at))
        (deaths_loading m digest layout s id me.0 kept at)
        (marks_loaded m digest layout s id me.0 kept at),
    record {
      met = is_met (epoch_word s.words) (reader_word s.words) (map reader_view s.views) id (reader_view me.0) kept.epochs (there s id me.1 me.0 kept at);
      dated = kept.deaths.dates id me.0 at;
      sole = λ all. raised_alone m digest layout s id me.0 kept at all;
      is = refl;
    },
  )

  pub may_pin : (st : Step (Running S)) (id n place epoch : ℕ) (me : Me (Running S) (CellView S A R)) → place ≡ pin_place me.0.seats.readers →
      1 ≤ length me.0.seats.readers → me.0.epochs.loaded ≡ epoch → me.0.epochs.pin ≡ Idle →
      Allows (IsCells m digest layout) n id me (reader_at place) (λ _. epoch + 1) (λ _. Pins st me (epoch + 1))
  may_pin st id n place epoch me is some' loaded idle = subst (λ e. Allows (IsCells m digest layout) n id me (reader_at place) (λ _. e + 1) (λ _. Pins st me (e + 1))) loaded
      (λ s kept homes at bound. (
        record me.0 { epochs = pinning me.0.epochs me.0.epochs.loaded },
        keeps,
        tt,
        store_keeps s id me.1 me.0 kept at place (Pinned me.0.epochs.loaded) me.0.trie (knows_same me.0.trie) is some'
            (kept.epochs.each id (reader_view me.0) (there s id me.1 me.0 kept at)).loaded (λ _. tt)
            (record { out = λ _. (kept.alone id me.0 at).out (λ stays. subst IsProtected idle stays); spent = λ none. absurd (omega (arith, none, some')) })
            ((kept.alone id me.0 at).out (λ stays. subst IsProtected idle stays)),
        record { is = refl },
      ))

  pub may_protect : (st : Step (Running S)) (id n epoch : ℕ) (me : Me (Running S) (CellView S A R)) → me.0.epochs.pin ≡ Pinned epoch →
      1 ≤ length me.0.seats.readers → Allows (IsCells m digest layout) n id me 0 (λ k. k) (Protects st me)
  may_protect st id n epoch me pin place s kept homes at bound = (
    record me.0 { epochs = protecting me.0.epochs (epoch_word s.words) },
    keeps,
    tt,
    load_keeps s id me.1 me.0 kept at 0 (protecting me.0.epochs (epoch_word s.words)) (alone_within (record me.0 { epochs = protecting me.0.epochs (epoch_word s.words) }) place tt)
        (protects (epoch_word s.words) (reader_word s.words) (map reader_view s.views) id (reader_view me.0) kept.epochs (there s id me.1 me.0 kept at) epoch pin)
        (deaths_load m digest layout s 0 id me.0 (record me.0 { epochs = protecting me.0.epochs (epoch_word s.words) }) kept at refl refl
        (rests_none (state_of m kept.log) me.0 (record me.0 { epochs = protecting me.0.epochs (epoch_word s.words) }) ((kept.alone id me.0 at).out (λ stays. subst IsProtected pin stays))))
        (marks_out m digest layout s kept (set s.words 0 (epoch_word s.words)) id me.0 (record me.0 { epochs = protecting me.0.epochs (epoch_word s.words) }) at
        (words_loaded layout kept.published s.words 0) (meets_same me.0.trie) refl (λ _. refl)
        ((kept.alone id me.0 at).out (λ stays. subst IsProtected pin stays))),
    record {
      met = is_met (epoch_word s.words) (reader_word s.words) (map reader_view s.views) id (reader_view me.0) kept.epochs (there s id me.1 me.0 kept at);
      sole = λ all. raised_alone m digest layout s id me.0 kept at all;
      is = refl;
    },
  )

  pub may_unpin : (st : Step (Running S)) (id n place : ℕ) (me : Me (Running S) (CellView S A R)) → place ≡ pin_place me.0.seats.readers → 1 ≤ length me.0.seats.readers → me.0.trie.locks ≡ [] →
      Allows (IsCells m digest layout) n id me (reader_at place) (λ _. 0) (λ _. Unpins st me 0)
  may_unpin st id n place me is some' free s kept homes at bound = (
    record me.0 { epochs = unpinning me.0.epochs; trie = forgetting me.0.trie },
    keeps,
    tt,
    store_keeps s id me.1 me.0 kept at place Idle (forgetting me.0.trie) (knows_less me.0.trie) is some' tt (λ _. tt)
        (record { out = λ _. record { stands = refl; leaf = refl; seen = refl; meets = refl; answered = refl; locks = free }; spent = λ none. absurd (omega (arith, none, some')) })
        (record { stands = refl; leaf = refl; seen = refl; meets = refl; answered = refl; locks = free }),
    record { is = refl },
  )

  pub may_scan : (st : Step (Running S)) (id n place : ℕ) (me : Me (Running S) (CellView S A R)) → st.word ≡ reader_at place → me.0.seats.lives ≡ true → 1 ≤ length me.0.seats.readers →
      Allows (IsCells m digest layout) n id me (reader_at place) (λ k. k) (Scans m digest layout st me)
  may_scan st id n place me is lives owns s kept homes at bound = (
    record me.0 { epochs = scanning me.0.epochs place (reader_word s.words place) },
    keeps,
    tt,
    load_keeps s id me.1 me.0 kept at (reader_at place) (scanning me.0.epochs place (reader_word s.words place))
        (alone_still me.0 (record me.0 { epochs = scanning me.0.epochs place (reader_word s.words place) }) (kept.alone id me.0 at) owns refl (λ none. none))
        (scans (epoch_word s.words) (reader_word s.words) (map reader_view s.views) id (reader_view me.0) kept.epochs (there s id me.1 me.0 kept at) place
        (passes_by me.0.epochs (reader_word s.words place)) refl)
        (deaths_load m digest layout s (reader_at place) id me.0 (record me.0 { epochs = scanning me.0.epochs place (reader_word s.words place) }) kept at refl refl
        (rests_less (state_of m kept.log) me.0 (record me.0 { epochs = scanning me.0.epochs place (reader_word s.words place) }) (knows_same me.0.trie) refl))
        (marks_on m digest layout s kept (set s.words (reader_at place) (reader_word s.words place)) id me.0 (record me.0 { epochs = scanning me.0.epochs place (reader_word s.words place) }) at
        (words_loaded layout kept.published s.words (reader_at place)) (meets_same me.0.trie) refl (λ _. refl) refl),
    record { reader = place; there = is; stood = stood_so m digest layout s id me.0 (reader_at place) (reader_at place) kept at lives refl; is = refl },
  )

  -- the pass after a try to raise the epoch, which it found so
  abbrev tried : Me (Running S) (CellView S A R) → ℕ → CellView S A R
  tried me found = record me.0 { epochs = advancing me.0.epochs found }

  abbrev known_after : Me (Running S) (CellView S A R) → ℕ → ℕ
  known_after me found = max me.0.epochs.known (cond (eqb found me.0.epochs.loaded) (found + 1) found)

  abbrev raises_after : Me (Running S) (CellView S A R) → ℕ → ℕ
  raises_after me found = me.0.epochs.raises + cond (eqb found me.0.epochs.loaded) 1 0

  -- a try that makes the epoch this
  abbrev Try : (st : Step (Running S)) (id : ℕ) (me : Me (Running S) (CellView S A R)) (s : State (Running S) (CellView S A R)) → ℕ → Type 0
  Try st id me s k =
      (w : CellView S A R) × (a : Act (Running S)) × Valid s.homes me.1 a × IsCells m digest layout (stepped s 0 k id me.1 w a)
      × RaisesEpoch st me (epoch_word s.words) (w, carried_after me.1 a)

  pub may_advance : (st : Step (Running S)) (id n epoch : ℕ) (me : Me (Running S) (CellView S A R)) →
      me.0.epochs.loaded ≡ epoch → epoch < 2 ^ 62 → HasScannedAll me.0.epochs → 1 ≤ length me.0.seats.readers →
      Allows (IsCells m digest layout) n id me 0 (λ k. either (eqb k epoch) (epoch + 1) k) (RaisesEpoch st me)
  may_advance st id n epoch me loaded below all place s kept homes at bound = exchanged (epoch_word s.words) epoch (epoch + 1) (Try st id me s) hit miss
    where
      tells : RaisesEpoch st me (epoch_word s.words) (tried me (epoch_word s.words), me.1)
      tells = record {
        met = is_met (epoch_word s.words) (reader_word s.words) (map reader_view s.views) id (reader_view me.0) kept.epochs (there s id me.1 me.0 kept at);
        sole = λ whole. raised_alone m digest layout s id me.0 kept at whole;
        is = refl;
      }

      mine-known : me.0.epochs.known ≤ epoch_word s.words
      mine-known = (kept.epochs.each id (reader_view me.0) (there s id me.1 me.0 kept at)).known

      greatest : max me.0.epochs.greatest (epoch_word s.words) ≤ epoch_word s.words
      greatest = let a = (kept.epochs.each id (reader_view me.0) (there s id me.1 me.0 kept at)).greatest in omega (arith, a)

      hit : epoch_word s.words ≡ epoch → Try st id me s (epoch + 1)
      hit e =
          let same : epoch_word s.words ≡ me.0.epochs.loaded = e ∙ sym loaded in
          let is : known_after me (epoch_word s.words) ≡ max me.0.epochs.known (epoch_word s.words + 1)
          = ap (λ b. max me.0.epochs.known (cond b (epoch_word s.words + 1) (epoch_word s.words))) (eq-eqb (epoch_word s.words) me.0.epochs.loaded same) in
          let most : max me.0.epochs.known (epoch_word s.words + 1) ≤ me.0.epochs.loaded + 1 = (let a = mine-known in omega (arith, a, same)) in
          let le : known_after me (epoch_word s.words) ≤ me.0.epochs.loaded + 1 = omega (arith, is, most) in
          let once : raises_after me (epoch_word s.words) ≡ me.0.epochs.raises + 1 = ap (λ b. me.0.epochs.raises + cond b 1 0) (eq-eqb (epoch_word s.words) me.0.epochs.loaded same) in
          let found : max me.0.epochs.greatest (epoch_word s.words) ≤ me.0.epochs.loaded + 1 = (let a = greatest in omega (arith, a, same)) in (
            tried me (epoch_word s.words),
            keeps,
            tt,
            subst (λ k. IsCells m digest layout (stepped s 0 (k + 1) id me.1 (tried me (epoch_word s.words)) keeps)) loaded
                (raise_keeps s id me.1 me.0 kept at (max me.0.epochs.greatest (epoch_word s.words)) (known_after me (epoch_word s.words))
                (raises_after me (epoch_word s.words)) same (omega (arith, below, loaded)) all found le once place),
            tells,
          )

      miss : epoch_word s.words ≢ epoch → Try st id me s (epoch_word s.words)
      miss ne =
          let is : known_after me (epoch_word s.words) ≡ max me.0.epochs.known (epoch_word s.words)
          = ap (λ b. max me.0.epochs.known (cond b (epoch_word s.words + 1) (epoch_word s.words))) (ne_eqb (epoch_word s.words) me.0.epochs.loaded (λ e. ne (e ∙ loaded))) in
          let most : max me.0.epochs.known (epoch_word s.words) ≤ epoch_word s.words = (let a = mine-known in omega (arith, a)) in
          let le : known_after me (epoch_word s.words) ≤ epoch_word s.words = omega (arith, is, most) in
          let so : raises_after me (epoch_word s.words) ≡ me.0.epochs.raises + 0
          = ap (λ b. me.0.epochs.raises + cond b 1 0) (ne_eqb (epoch_word s.words) me.0.epochs.loaded (λ e. ne (e ∙ loaded))) in
          let none : raises_after me (epoch_word s.words) ≡ me.0.epochs.raises = omega (arith, so) in (
            tried me (epoch_word s.words),
            keeps,
            tt,
            load_keeps s id me.1 me.0 kept at 0 (advancing me.0.epochs (epoch_word s.words)) (alone_still me.0 (tried me (epoch_word s.words)) (kept.alone id me.0 at) place refl (λ none. none))
                (misses (epoch_word s.words) (reader_word s.words) (map reader_view s.views) id (reader_view me.0) kept.epochs (there s id me.1 me.0 kept at) (epoch_word s.words)
                (max me.0.epochs.greatest (epoch_word s.words)) (known_after me (epoch_word s.words)) (raises_after me (epoch_word s.words)) greatest le none)
                (deaths_load m digest layout s 0 id me.0 (tried me (epoch_word s.words)) kept at refl refl
                (rests_less (state_of m kept.log) me.0 (tried me (epoch_word s.words)) (knows_same me.0.trie) refl))
                (marks_on m digest layout s kept (set s.words 0 (epoch_word s.words)) id me.0 (tried me (epoch_word s.words)) at
                (words_loaded layout kept.published s.words 0) (meets_same me.0.trie) refl (λ _. refl) refl),
            tells,
          )

-- a pass of the table stays one through a step that changes what it knows of the epoch
pub pass_on : {S A R : Type 0} (layout : Layout) (table seat seat' : TableId) (readers : List ℕ) (me next : Me (Running S) (CellView S A R)) (side : EpochSide) →
    IsPassOf layout table seat readers me → seat' ≡ seat → next ≡ with_epochs me side → side.loaded ≤ last_epoch →
    (side.pin ≡ Idle → me.0.trie.answered ≡ []) → (side.pin ≡ Idle → me.0.trie.locks ≡ []) → IsPassOf layout table seat' readers next
pass_on layout table seat seat' readers me next side own same is epoch quiet free = rw is (record {
  same = same ∙ own.same;
  words = own.words;
  carries = own.carries;
  sized = own.sized;
  lives = own.lives;
  theirs = own.theirs;
  owns = own.owns;
  place = own.place;
  most = own.most;
  reader = own.reader;
  epoch = epoch;
  unanswered = quiet;
  unlocked = free;
  marked = own.marked;
})

-- and through the end of its stay
pub left_on : {S A R : Type 0} (layout : Layout) (table seat seat' : TableId) (readers : List ℕ) (me next : Me (Running S) (CellView S A R)) →
    IsPassOf layout table seat readers me → seat' ≡ seat → next ≡ unpinned me → me.0.trie.locks ≡ [] → IsPassOf layout table seat' readers next
left_on layout table seat seat' readers me next own same is free = rw is (record {
  same = same ∙ own.same;
  words = own.words;
  carries = own.carries;
  sized = own.sized;
  lives = own.lives;
  theirs = own.theirs;
  owns = own.owns;
  place = own.place;
  most = own.most;
  reader = own.reader;
  epoch = own.epoch;
  unanswered = λ _. refl;
  unlocked = λ _. free;
  marked = own.marked;
})
