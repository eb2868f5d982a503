-- Kind 15 for a key keeps the rule, and holds the key.
use Rattle.std.specs.List.{Contains}
use Rattle.std.proofs.Common.{◌≡◌, ◌≢◌, ℕ, ◌+◌, ◌<◌, ◌≤◌, true, false, true≢false, cond, Option, Some, None, List, [], ◌∷◌, ◌++◌, map, set, length}
use Rattle.std.proofs.{Common.{slice_index, refl, sym, ap, ◌∙◌, subst, ⊎_elim, inl, inr, arith, length-set, ◌⊎◌, ◌-◌}, lemmas.Grind.same_number_lists}
use Rattle.std.proofs.lemmas.List.{map-set, get_or-set_other, Elements.Contains-append_right}
use mathlib.Core.Option.{some}
use lib.ListN.{get_elem?}
use Rattle.atomic_table.{specs.Table.{State, Me, Step, Allows, stepped, keeps}, proofs.Lists.{at_map, at_set}}
use Rattle.npf_types.specs.declared.key.{Key.Key, Way.Way}
use Rattle.npf_core.specs.declared.{act.Act.TheVariants.Hold, conn_id.ConnId.ConnId, entry.Entry.Entry, found.Found.Found, held.Held.Held}
use Rattle.npf_core.specs.{declared.{reply.Reply.TheVariants.ToHold, stage.Stage.TheVariants.Building}, History.{MayFollow, Legal, after, state_of}}
use Rattle.npf_core.{specs.{Machine.{Machine, stage_of, is_key}, Meaning.Meaning, NextState.holder_or, Replies.held_by}, proofs.EqualityLemmas.is_key-Decides}
use Rattle.npf_core.proofs.HistoryLemmas.{state_of-append, Legal-append}
use Rattle.npf_connections.specs.{Adding.AddsOwn, Pass.all_places}
use Rattle.npf_paths.specs.{declared.{cell.Cell.{Cell, TheVariants.{Empty, Leaf, Node, Mark}}, place.Place.Place}, CellWords.cell_word}
use Rattle.npf_paths.specs.declared.place.Place.TheVariants as Places
use Rattle.npf_paths.specs.{Growing.{IsPlaceOf, GrowsBranch}, GrowingLaw.{IsEndNow, PathsAfterGrowth, IsEndNow.{end_stays, end_grew}}}
use Rattle.npf_paths.specs.{Paths.{AreDigits, IsOnPath, IsEnd, IsOnPath.{at_root, further}}, Places.lock_of}
use Rattle.npf_paths.proofs.{FillingLemmas.{same_or_apart, filled_back, filled_places}, BranchLemmas.branch_long, GrowingLemmas.growth_told, PathLemmas.one_end}
use Rattle.npf_cells_words.specs.declared.layout.{Layout.Layout, Pool.{Pool, TheVariants.{Slots, Nodes}}}
use Rattle.npf_cells_words.specs.{Layout.{root_at, parent_field, key_field, field_at, notes_field, turn_field, phase_field, note_field}, Codes.place_code}
use Rattle.npf_cells_words.{specs.{MarkWords.shown_of, Places.{IsInTrie, place_at}}, proofs.MarkLemmas.{real_shown, said_shown}}
use Rattle.npf_cells_words.proofs.WordLemmas.{place_lock, place_behind, same_note}
use Rattle.npf_seats.{specs.{Seats.{FitsSeats, Seats}, Sums.occurs}, proofs.{ListLemmas.occurs_or, PrefixLemmas.none_listed, SeatLemmas.seats-adds}}
use Rattle.npf_seats.proofs.SumLemmas.{sum-set}
use Rattle.npf_cells_pins.proofs.EpochLemmas.{within_last}
use Rattle.npf_cells_leaves.specs.{Sights.SeesLocked, declared.trie.LoadedLeaf.LoadedLeaf, Parents.{foot_place, NameParents}}
use Rattle.npf_cells_leaves.specs.Trie.{key_in, digits_of, TrieWords, trie_words, leaf_found, holder_at, StaysLeaf, FitsTrie, Trie, all_grown, all_regained}
use Rattle.npf_cells_leaves.proofs.FillLemmas.{FillsFor, fills_place, trie_filled}
use Rattle.npf_cells_leaves.proofs.{GivenLemmas.{key_cases, keys_apart, other_holds, GivesKey, fits_still, others-fit}, GrowLemmas.{branch_seen, trie_grown}}
use Rattle.npf_cells_leaves.proofs.{ParentLemmas.{names_so, mine_foot, theirs_foot}, TrieLemmas.{knows_same, are_digits, cell_there}}
use Rattle.npf_cells_lives.specs.{Conns.{Conns, entry_seat}, Deaths.{Deaths, last_id, unreclaimed}, Known.Known, Locks.Locks, Pools.{taken, Pools}}
use Rattle.npf_cells_lives.{specs.Stored.{stored_value, StoredWords}, proofs.BuiltLemmas.bare_in_log}
use Rattle.npf_cells_lives.proofs.{ConnLemmas.{BuildsIn, builds-kept, unstored-set, inc_shown}, FreedLemmas.freed_stays}
use Rattle.npf_cells_lives.proofs.LockLemmas.{locks-same, holders-set, locks_alone}
use Rattle.npf_cells_lives.proofs.{NoteLemmas.{ahead_turns, ahead_fits, note_stays, notes_left, nobody_before}, TurnLemmas.turns-like, PoolLemmas.pools-kept}
use Rattle.npf_cells_rule.{proofs.LawLemmas.builds_alone, specs.{declared.view.CellView.CellView, Cells.{IsCells, FitsAlone}, Passes.{IsProtected, cell_pass}}}
use Rattle.npf_cells_lives.{proofs.StoredLemmas.{fits_unstored, stored_kept, stored-set}, specs.declared.{pools.Note.Note, turn.{Ahead.Ahead, Said.Said}}}
use Rattle.npf_cells_marks.specs.Marks.{Marks}
use Rattle.npf_cells_rule.specs.Views.{seat_side, reader_view, lock_side, mark_side, pool_side, trie_side, turn_side, leaf_id, death_side, seen_side}
use Rattle.npf_cells_rule.proofs.{DeathFrames.{rests_or_holds, deaths_spared, gone_same, known_seen}, EntryLemmas.{adds_entry, sole_entries}}
use Rattle.npf_cells_rule.proofs.{Frames.{alone-set, alone_within, framed, epochs_apart}, MarkMetLemmas.marks_in_place, MetLemmas.unowned, PassLemmas.pinned_in}
use Rattle.npf_cells_holds.specs.{HoldKinds.renewed, LookKinds.level_at}
use Rattle.npf_cells_holds.specs.PublishKinds.{stored_cell, cell_stored, IsParentStored, GrowsNodes, HasNoted, IsSettled, IsAheadTo, MovesLeaf, PutsFor}
use Rattle.npf_cells_holds.specs.PublishKinds.{MayPublishFor, published_for, HasHeld, PublishesFor, publishing}
use Rattle.npf_cells_holds.proofs.{AgainKeepLemmas.{real_word, stands_there}, LookKeepLemmas.{word_of, on_path}, OwnedLemmas.{owns_there, taken_moved}}
use Rattle.npf_cells_holds.proofs.PlaceLemmas.{cell_here, cell_else, key_else, inc_else, parent_else, turn_else, lock_else, own_else, note_else}
use Rattle.npf_cells_holds.{proofs.SpareLemmas.hold_spares, specs.PublishKinds.PutsFor.{fills, grows}}
use Rattle.npf_cells_lives.specs.{declared.turn.Turn.Turn, Notes.{note_word, IsAheadOf, NobodyAhead, FitsNote, notes_but, with_ahead, Notes}}
use Rattle.npf_cells_lives.specs.Turns.{Running, FitsTurn, Turns}

module _ {S A R : Type 0} (m : Meaning S A R) (digest : Key → ℕ) (layout : Layout) where
  -- a store in a place of the trie, by which the pass adds an entry of its own and may publish nodes
  publish_step : (s : State (Running S) (CellView S A R)) (i n id : ℕ) (v w : CellView S A R) (kept : IsCells m digest layout s) (published : List ℕ) →
      get_elem? s.views id ≡ some v → root_at layout ≤ i → v.seats.lives ≡ true → 1 ≤ length v.seats.readers →
      (entry : Entry S A R) → entry.seat ≡ id → MayFollow m layout.slots (state_of m kept.log) entry → w.seats ≡ record v.seats { history = kept.log ++ entry ∷ [] } → reader_view w ≡ reader_view v →
      ((pool : Pool) (place : ℕ) →
      taken pool_side published (after m (state_of m kept.log) entry) (set s.views id w) pool place ≡ taken pool_side kept.published (state_of m kept.log) s.views pool place) →
      Trie trie_side digest layout published (after m (state_of m kept.log) entry) (set s.words i n) (set s.views id w) →
      Conns pool_side m layout (kept.log ++ entry ∷ []) (set s.words i n) (set s.views id w) → StoredWords pool_side layout (set s.words i n) (set s.views id w) →
      Locks lock_side layout (set s.words i n) (set s.views id w) → Turns turn_side layout (unreclaimed death_side (set s.views id w) (after m (state_of m kept.log) entry))
      (set s.words i n) s.homes (set s.views id w) → Deaths death_side layout (after m (state_of m kept.log) entry) (set s.words i n) (set s.views id w) →
      Known (seen_side m) pool_side (after m (state_of m kept.log) entry) (set s.views id w) →
      Notes turn_side pool_side layout (trie_words layout (set s.words i n)).cell (after m (state_of m kept.log) entry) (set s.words i n) (set s.views id w) →
      Marks mark_side layout published (set s.words i n) (set s.views id w) → FitsAlone w →
      (c : List (ℕ × Running S)) → IsCells m digest layout (stepped s i n id c w keeps)
  publish_step s i n id v w kept published at behind lives place entry mine follows seats reads takes trie connections stored locks turns deaths known notes marks alone c =
      let log = kept.log ++ entry ∷ [] in
      let state = state_of-append m kept.log entry in
      framed m digest layout s (stepped s i n id c w keeps) kept published log (length-set s.words i n)
      (subst (λ sides. Seats entry_seat layout.slots all_places log sides) (sym (map-set seat_side s.views id w ∙ ap (λ side. set (map seat_side s.views) id side) seats))
      (seats-adds entry_seat layout.slots all_places kept.log (map seat_side s.views) id v.seats kept.seats (at_map seat_side s.views id v at) lives place entry mine))
      (epochs_apart m digest layout s i n id v w kept at reads (λ j h. below j (omega (arith, h))))
      (subst (λ k. Pools layout (taken pool_side published k (set s.views id w)) (set s.words i n)) (sym state)
      (pools-kept layout (taken pool_side kept.published (state_of m kept.log) s.views) (taken pool_side published (after m (state_of m kept.log) entry) (set s.views id w)) s.words
      (set s.words i n) kept.pools (length-set s.words i n) below takes))
      (subst (λ k. Trie trie_side digest layout published k (set s.words i n) (set s.views id w)) (sym state) trie)
      connections
      stored
      locks
      (subst (λ k. Turns turn_side layout (unreclaimed death_side (set s.views id w) k) (set s.words i n) s.homes (set s.views id w)) (sym state) turns)
      (subst (λ k. Deaths death_side layout k (set s.words i n) (set s.views id w)) (sym state) deaths)
      (subst (λ k. Known (seen_side m) pool_side k (set s.views id w)) (sym state) known)
      (subst (λ k. Notes turn_side pool_side layout (trie_words layout (set s.words i n)).cell k (set s.words i n) (set s.views id w)) (sym state) notes)
      marks
      (alone-set s.views id w alone kept.alone)
    where
      below : (j : ℕ) → j < root_at layout → slice_index (set s.words i n) j ≡ slice_index s.words j
      below j h = get_or-set_other s.words i j n 0 (λ e. absurd (omega (arith, e, h, behind)))

  module _ (s : State (Running S) (CellView S A R)) (id : ℕ) (me : Me (Running S) (CellView S A R)) (kept : IsCells m digest layout s)
      (at : get_elem? s.views id ≡ some me.0) (lives : me.0.seats.lives ≡ true) (settled : me.0.seats.theirs ≡ []) (place : 1 ≤ length me.0.seats.readers)
      (stays : IsProtected me.0.epochs.pin) (conn : ConnId) (key : Key) (way : Way) (p : Place) (inside : IsInTrie layout p)
      (cell : Cell) (may : MayPublishFor m digest layout me.0 conn key way p cell) where
    abbrev k : Machine S
    k = state_of m kept.log

    abbrev word : ℕ
    word = place_at layout p

    abbrev words' : List ℕ
    words' = set s.words word (cell_word cell)

    abbrev t : TrieWords
    t = trie_words layout s.words

    abbrev t' : TrieWords
    t' = trie_words layout words'

    abbrev level : ℕ
    level = level_at me.0.trie p

    abbrev entry : Entry S A R
    entry = record { seat = id; act = Hold conn key way; reply = ToHold Held.Done }

    abbrev k' : Machine S
    k' = after m k entry

    abbrev holding : List ℕ → CellView S A R
    holding nodes = published_for me.0 (kept.log ++ entry ∷ []) conn way nodes

    on : IsOnPath (digits_of digest key) t.cell level p
    on = on_path digest layout.slots k t me.0.trie key p (kept.trie.each id me.0 at) may.stands

    there : get_elem? (map seat_side s.views) id ≡ some me.0.seats
    there = at_map seat_side s.views id me.0 at

    fits : FitsSeats entry_seat layout.slots (map seat_side s.views) kept.log id me.0.seats
    fits = kept.seats.each id me.0.seats there

    number : me.0.seats.number ≡ id
    number = (fits.lives lives).number

    built : stage_of k conn ≡ Building id
    built = (kept.connections.each id me.0 at).building conn may.hold.built

    -- a key without a holder may be held
    follows : k.holder key ≡ None → MayFollow m layout.slots k entry
    follows free = record {
      allowed = record { built = built; none = bare_in_log m layout.slots me.0.seats.history kept.log id conn way kept.connections.legal fits.seen (fits.lives lives).own built may.hold.bare };
      replied = ap (λ h. ToHold (held_by h)) (sym free);
    }

    -- the words that the pass stored in the slot are the key's and the incarnation
    key_stands : t.key conn.slot way ≡ key
    key_stands = ap (λ (numbers : List ℕ). record { 0 = numbers }) (same_number_lists (key_in layout s.words conn.slot way).0 key.0 (sym may.key_stored.five) (λ i h.
        sym (word_of layout s.words conn.slot way i h) ∙ (kept.stored id me.0 at).stands (field_at layout Slots conn.slot (key_field way + i)) (slice_index key.0 i) (may.key_stored.words i h)))

    inc_stands : t.inc conn.slot ≡ conn.inc
    inc_stands = ⊎_elim
        (λ (none : occurs conn.slot me.0.pools.unstored ≡ 0). let shown = inc_shown pool_side m layout kept.log s.words s.views id me.0 kept.connections at conn may.hold.built may.exists in
        omega (arith, shown, none))
        (λ owes. absurd (may.inc_stored owes))
        (occurs_or conn.slot me.0.pools.unstored)

    gives : k.holder key ≡ None → GivesKey layout.slots k k' t t' conn key way
    gives free = record {
      exists = may.exists;
      free = free;
      holder = λ other. refl;
      claimed = λ identity c. c;
      dead = λ identity e. e;
      keys = key_else m digest layout s kept p inside (cell_word cell);
      incs = inc_else m digest layout s kept p inside (cell_word cell);
      key_is = key_stands;
      inc_is = inc_stands;
    }

    connected : (nodes : List ℕ) → k.holder key ≡ None → Conns pool_side m layout (kept.log ++ entry ∷ []) words' (set s.views id (holding nodes))
    connected nodes free =
        let state = state_of-append m kept.log entry in
        record {
          reach = length-set s.words word (cell_word cell) ∙ kept.connections.reach;
          legal = Legal-append m layout.slots kept.log entry kept.connections.legal (follows free);
          each = subst (λ x. BuildsIn pool_side x (set s.views id (holding nodes))) (sym state) (λ j u e.
              let builds = builds-kept pool_side k s.views id me.0 (holding nodes) at refl refl kept.connections.each j u e in
              record { building = builds.building; owing = builds.owing; once = builds.once });
          incs = λ slot h. (λ i. inc_else m digest layout s kept p inside (cell_word cell) slot i + unstored-set pool_side s.views id me.0 (holding nodes) at refl slot i)
              ∙ (kept.connections.incs slot h ∙ ap (λ x. (x.slot slot).inc) (sym state));
        }

    stored_stays : (nodes : List ℕ) → StoredWords pool_side layout words' (set s.views id (holding nodes))
    stored_stays nodes = stored-set pool_side layout words' s.views id (holding nodes) (fits_unstored layout words' (holding nodes).pools refl)
        (λ j u ne e. stored_kept layout s.words words' u.pools u.pools (kept.stored j u e) refl (λ pool place' field own. own)
        (own_else m digest layout s kept p inside (cell_word cell) (digits_of digest key) level (are_digits digest key) on j u e))

    locks_stay : (nodes : List ℕ) → Locks lock_side layout words' (set s.views id (holding nodes))
    locks_stay nodes = locks-same lock_side layout s.words words' s.views (set s.views id (holding nodes)) kept.locks
        (lock_else m digest layout s kept p inside (cell_word cell)) (holders-set lock_side layout s.views id me.0 (holding nodes) at refl)

    -- the pass counts the nodes
    all_after : (nodes : List ℕ) → all_grown trie_side (set s.views id (holding nodes)) ≡ length nodes + all_grown trie_side s.views
    all_after nodes = let more = sum-set (λ (u : CellView S A R). u.trie.grown) s.views id me.0 (holding nodes) at in omega (arith, more)

    back_after : (nodes : List ℕ) → all_regained trie_side (set s.views id (holding nodes)) ≡ all_regained trie_side s.views
    back_after nodes = let more = sum-set (λ (u : CellView S A R). u.trie.regained) s.views id me.0 (holding nodes) at in omega (arith, more)

    fits_grown : {k'' : Machine S} {t'' : TrieWords} (nodes : List ℕ) → FitsTrie digest layout.slots k'' t'' (publishing (renewed me.0.trie)) →
        FitsTrie digest layout.slots k'' t'' (holding nodes).trie
    fits_grown nodes was = record { stands = was.stands; leaf = was.leaf; seen = was.seen; claimed = was.claimed }

    -- each seat fits still: none but this pass had the place's lock
    all_fit : (free : k.holder key ≡ None) (nodes : List ℕ) → Contains me.0.trie.locks (lock_of p) →
        ((digits : ℕ → ℕ) (l : ℕ) (q : Place) → AreDigits digits → IsOnPath digits t.cell l q → IsOnPath digits t'.cell l q) →
        ((digits : ℕ → ℕ) (l : ℕ) (q : Place) → AreDigits digits → IsOnPath digits t.cell l q → q ≢ p → t'.cell q ≡ t.cell q) →
        (j : ℕ) (u : CellView S A R) → get_elem? (set s.views id (holding nodes)) j ≡ some u → FitsTrie digest layout.slots k' t' u.trie
    all_fit free nodes locked old elsewhere = others-fit trie_side layout digest k' t' s.views id (holding nodes)
        (fits_grown nodes (fits_still digest layout.slots k k' t t' conn key way (gives free) p old elsewhere me.0.trie (publishing (renewed me.0.trie))
        (record {
          stands = λ point e. e;
          leaf = λ leaf e. e;
          seen = λ x e. absurd cc;
          locks = refl;
          answered = λ i c. absurd (none_listed i c);
          marks = refl;
          emptied = λ e is. absurd cc;
          met_mark = λ y is. is;
          grown = refl;
          regained = refl;
        }) (λ x e. absurd cc) (kept.trie.each id me.0 at)))
        (λ j u ne e. fits_still digest layout.slots k k' t t' conn key way (gives free) p old elsewhere u.trie u.trie (knows_same u.trie)
        (λ x seen has same. locks_alone lock_side layout s.words s.views j id u me.0 (lock_of p) kept.locks (place_lock layout p inside) e at
        (subst (λ q. Contains u.trie.locks (lock_of q)) same has) locked ne) (kept.trie.each j u e))

    -- the hold spares the dead, and the pass rests on nothing more
    deaths_held : (nodes : List ℕ) → Deaths death_side layout k' words' (set s.views id (holding nodes))
    deaths_held nodes = deaths_spared m digest layout s word (cell_word cell) id me.0 (holding nodes) k' kept at refl refl (hold_spares m k id conn key way built) (λ slot. refl)
        (rests_or_holds k (death_side me.0) (death_side (holding nodes)) refl
        (λ i rests. ⊎_elim (λ (c : Contains [] i). absurd (none_listed i c)) (λ (e : leaf_id me.0.trie.leaf ≡ Some i). inl (inr e)) rests))
        (let same = get_or-set_other s.words word 0 (cell_word cell) 0 (λ e. absurd (let far = place_behind layout p in omega (arith, e, far))) in omega (arith, same))
        (λ slot h. turn_else m digest layout s kept p inside (cell_word cell) slot notes_field)

    -- the pass knows what its kills hold, since it has seen all
    known_held : (nodes : List ℕ) → Known (seen_side m) pool_side k' (set s.views id (holding nodes))
    known_held nodes = known_seen m digest layout s id me.0 (holding nodes) k' kept at (λ i c. c) (state_of-append m kept.log entry) (hold_spares m k id conn key way built)

    -- a turn that the pass has fits still, is ahead of nothing, and was told nothing
    turn_fits : (t : Option (Turn S)) → me.0.turn ≡ t → (turn : Turn S) → with_ahead None t ≡ Some turn → FitsTurn layout (unreclaimed death_side s.views k) s.words turn
    turn_fits None has turn is = absurd cc
    turn_fits (Some mine) has turn is =
        let same : record mine { ahead = None; said = None } ≡ turn = cc in
        let fits = kept.turns.each id me.0 mine at has in
        subst (FitsTurn layout (unreclaimed death_side s.views k) s.words) same (record { exists = fits.exists; phase = fits.phase; stays = fits.stays })

    settled_after : (t : Option (Turn S)) (turn : Turn S) (note : Ahead) → with_ahead None t ≡ Some turn → turn.ahead ≡ Some note → ⊥
    settled_after None turn note is ahead = cc
    settled_after (Some mine) turn note is ahead = let same : record mine { ahead = None; said = None } ≡ turn = cc in let no : None ≡ Some note = ap (λ (y : Turn S). y.ahead) same ∙ ahead in cc

    untold_after : (t : Option (Turn S)) (turn : Turn S) (said : Said) → with_ahead None t ≡ Some turn → turn.said ≡ Some said → ⊥
    untold_after None turn said is told = cc
    untold_after (Some mine) turn said is told = let same : record mine { ahead = None; said = None } ≡ turn = cc in let no : None ≡ Some said = ap (λ (y : Turn S). y.said) same ∙ told in cc

    turns_after : (nodes : List ℕ) → Turns turn_side layout (unreclaimed death_side (set s.views id (holding nodes)) k') words' s.homes (set s.views id (holding nodes))
    turns_after nodes = turns-like turn_side layout (unreclaimed death_side s.views k) (unreclaimed death_side (set s.views id (holding nodes)) k') s.words words' s.homes s.views id me.0
        (holding nodes) kept.turns at (λ slot. ahead_turns None me.0.turn slot) (λ turn is. turn_fits me.0.turn refl turn is) (record {
          turn = λ slot h. turn_else m digest layout s kept p inside (cell_word cell) slot turn_field;
          phase = λ slot h. turn_else m digest layout s kept p inside (cell_word cell) slot phase_field;
          slots = λ slot. freed_stays death_side s.views (set s.views id (holding nodes)) k k' slot (gone_same m digest layout s.views id me.0 (holding nodes) at refl slot) (inl refl);
        })

    abbrev taker : Found
    taker = record { id = conn; way = way }

    -- what was held is, and what is held was, or is this key
    held_on : k.holder key ≡ None → (other : Key) (found : Found) → k.holder other ≡ Some found → k'.holder other ≡ Some found
    held_on free other found is = ⊎_elim
        (λ (same : key ≡ other). absurd (let no : None ≡ Some found = sym free ∙ (ap k.holder same ∙ is) in cc))
        (λ differ. other_holds digest layout.slots k k' t t' conn key way (gives free) other differ ∙ is)
        (key_cases key other)

    held_back : k.holder key ≡ None → (other : Key) (found : Found) → k'.holder other ≡ Some found → (k.holder other ≡ Some found) ⊎ (taker ≡ found)
    held_back free other found is = ⊎_elim
        (λ (same : key ≡ other).
        let now : k'.holder other ≡ Some taker = ap (λ b. cond b (holder_or (k.holder other) taker) (k.holder other))
        ((is_key-Decides key other).1 same) ∙ ap (λ x. holder_or x taker) (ap k.holder (sym same) ∙ free) in
        inr (let e : Some taker ≡ Some found = sym now ∙ is in cc))
        (λ differ. inl (sym (other_holds digest layout.slots k k' t t' conn key way (gives free) other differ) ∙ is))
        (key_cases key other)

    -- the leaves that paths then meet are where their notes say
    abbrev Names : List ℕ → Type 0
    Names nodes = (digits : ℕ → ℕ) (l : ℕ) (q : Place) (slot : ℕ) (w : Way) → AreDigits digits → IsOnPath digits t'.cell l q → t'.cell q ≡ Leaf slot w →
        NobodyAhead turn_side (set s.views id (holding nodes)) slot (note_field w) → note_word layout s.words slot w ≡ place_code q

    notes_after : (nodes : List ℕ) → k.holder key ≡ None → Names nodes → Notes turn_side pool_side layout t'.cell k' words' (set s.views id (holding nodes))
    notes_after nodes free names = record {
      named = λ digits l q slot w are on' is none. note_else m digest layout s kept p inside (cell_word cell) slot w ∙ names digits l q slot w are on' is none;
      bare = λ slot w within live none. note_else m digest layout s kept p inside (cell_word cell) slot w
          ∙ kept.notes.bare slot w within live (λ other holds. none other (held_on free other (record { id = last_id k slot; way = w }) holds));
      given = λ j u i w e c not none. note_else m digest layout s kept p inside (cell_word cell) i.slot w ∙ ⊎_elim
          (λ (x : (j ≡ id) × (holding nodes ≡ u)).
          kept.notes.given id me.0 i w at (subst (λ (y : CellView S A R). Contains y.pools.kills i) (sym x.1) c)
          (λ d. not (subst (λ (y : CellView S A R). Contains y.pools.gave_up (record { id = i; way = w })) x.1 d))
          (λ other holds. none other (held_on free other (record { id = i; way = w }) holds)))
          (λ (x : (j ≢ id) × (get_elem? s.views j ≡ some u)). kept.notes.given j u i w x.1 c not (λ other holds. none other (held_on free other (record { id = i; way = w }) holds)))
          (at_set s.views id j (holding nodes) u e);
      said = λ j u turn said w e has is firm field. note_else m digest layout s kept p inside (cell_word cell) turn.slot w ∙ ⊎_elim
          (λ (x : (j ≡ id) × (holding nodes ≡ u)). absurd (untold_after me.0.turn turn said (ap (λ (y : CellView S A R). y.turn) x.1 ∙ has) is))
          (λ (x : (j ≢ id) × (get_elem? s.views j ≡ some u)). kept.notes.said j u turn said w x.1 has is firm field)
          (at_set s.views id j (holding nodes) u e);
      ahead = λ j u turn note e has is. ⊎_elim
          (λ (x : (j ≡ id) × (holding nodes ≡ u)). absurd (settled_after me.0.turn turn note (ap (λ (y : CellView S A R). y.turn) x.1 ∙ has) is))
          (λ (x : (j ≢ id) × (get_elem? s.views j ≡ some u)).
          let fits = kept.notes.ahead j u turn note x.1 has is in
          ahead_fits layout k k' s.words words' turn.slot note fits (note_else m digest layout s kept p inside (cell_word cell) turn.slot fits.way) (held_on free))
          (at_set s.views id j (holding nodes) u e);
      each = λ j u note e c. ⊎_elim
          (λ (x : (j ≡ id) × (holding nodes ≡ u)). subst (λ (y : CellView S A R). FitsNote layout k' words' y.pools.builds note) x.1
          (own_note note (subst (λ (y : CellView S A R). Contains y.pools.notes note) (sym x.1) c)))
          (λ (x : (j ≢ id) × (get_elem? s.views j ≡ some u)). note_stays layout k k' s.words words' u.pools.builds u.pools.builds note
          (λ w is. note_else m digest layout s kept p inside (cell_word cell) note.slot w)
          (λ other i w built is there holds. let asked : Found = record { id = i; way = w } in ⊎_elim
          (λ was. was)
          (λ (same : taker ≡ asked). absurd (x.0 (builds_alone m layout digest s j id u me.0 i conn kept x.1 at built may.hold.built (ap (λ (f : Found). f.id.slot) (sym same)))))
          (held_back free other asked holds))
          (λ i e' c'. c') (kept.notes.each j u note x.1 c))
          (at_set s.views id j (holding nodes) u e);
    }
      where
        own_note : (note : Note) → Contains (notes_but conn.slot (note_field way) me.0.pools.notes) note → FitsNote layout k' words' me.0.pools.builds note
        own_note note c =
            let left = notes_left conn.slot (note_field way) me.0.pools.notes note c in
            note_stays layout k k' s.words words' me.0.pools.builds me.0.pools.builds note (λ w is. note_else m digest layout s kept p inside (cell_word cell) note.slot w)
            (λ other i w built is there holds. let asked : Found = record { id = i; way = w } in ⊎_elim
            (λ was. was)
            (λ (same : taker ≡ asked). absurd (left.1 (sym there ∙ ap (λ (f : Found). f.id.slot) (sym same)) (is ∙ ap (λ (f : Found). note_field f.way) (sym same))))
            (held_back free other asked holds))
            (λ i e' c'. c') (kept.notes.each id me.0 note at left.0)

    -- the pass noted where the leaf will stand
    own_noted : (nodes : List ℕ) → HasNoted me.0.pools.notes conn.slot way (place_code (foot_place (digits_of digest key) (level + 1) p nodes)) →
        note_word layout s.words conn.slot way ≡ place_code (foot_place (digits_of digest key) (level + 1) p nodes)
    own_noted nodes noted = let fits = kept.notes.each id me.0 _ at noted in ap (note_word layout s.words conn.slot) (same_note way fits.way fits.field_is) ∙ fits.stands

    -- what stands there then is no mark, and the pass marked no node that has the place
    marks_after : (nodes : List ℕ) → IsEnd (t.cell p) → Contains me.0.trie.locks (lock_of p) → cell ≢ Mark → Marks mark_side layout (nodes ++ kept.published) words' (set s.views id (holding nodes))
    marks_after nodes end locked real = marks_in_place m digest layout s kept p inside id (cell_word cell) me.0 (holding nodes) (nodes ++
        kept.published) (digits_of digest key) level at locked (are_digits digest key) on end (real_word cell real) may.unmarked
        (λ n c. Contains-append_right nodes kept.published n c) (record {
          stands = λ point e. e;
          seen = λ x e. absurd cc;
          locks = refl;
          marks = refl;
          emptied = λ e is. absurd cc;
          met_mark = λ y is. is;
        }) refl refl refl (λ x c one. refl) refl

    -- the rule, as long as the trie's part holds and the nodes pass from the pass to the trie
    held_so : (nodes : List ℕ) → k.holder key ≡ None → IsEnd (t.cell p) → Contains me.0.trie.locks (lock_of p) → cell ≢ Mark → Names nodes →
        ((pool : Pool) (x : ℕ) → taken pool_side (nodes ++ kept.published) k' (set s.views id (holding nodes)) pool x ≡ taken pool_side kept.published k s.views pool x) →
        Trie trie_side digest layout (nodes ++ kept.published) k' words' (set s.views id (holding nodes)) → IsCells m digest layout (stepped s word (cell_word cell) id me.1 (holding nodes) keeps)
    held_so nodes free end locked real names takes trie = publish_step s word (cell_word cell) id me.0 (holding nodes) kept (nodes ++ kept.published) at
        (place_behind layout p) lives place entry refl (follows free) refl refl takes trie (connected nodes free) (stored_stays nodes) (locks_stay nodes)
        (turns_after nodes) (deaths_held nodes) (known_held nodes) (notes_after nodes free names) (marks_after nodes end locked real) (alone_within (holding nodes) place stays) me.1

    -- the hold ends what the pass has then seen
    pub has_held : (nodes : List ℕ) → PutsFor digest layout me.0 conn key way p cell nodes → k.holder key ≡ None → HasHeld m digest layout conn key way p cell me (holding nodes, me.1)
    has_held nodes puts free = record {
      nodes = nodes;
      puts = puts;
      adds = subst (AddsOwn (cell_pass me.0) (kept.log ++ entry ∷ [])) (ap (λ n. record entry { seat = n } ∷ []) (sym number))
          (adds_entry layout.slots kept.log (map seat_side s.views) id me.0 kept.seats there lives place entry refl);
      legal = record {
        legal = subst (λ slots. Legal m slots (kept.log ++ entry ∷ [])) (sym (fits.sized place)) (Legal-append m layout.slots kept.log entry kept.connections.legal (follows free));
        stays = λ i c. absurd (none_listed i c);
        building = λ i c. ap (λ n. stage_of n i) (state_of-append m kept.log entry) ∙ ((kept.connections.each id me.0 at).building i c ∙ ap (λ n. Building n) (sym number));
        unanswered = λ out. refl;
        idle = λ out. absurd (true≢false (sym (pinned_in me.0.epochs.pin stays) ∙ out));
        alone = sole_entries layout.slots kept.log (map seat_side s.views) id me.0 kept.seats there lives place entry refl settled;
        most = within_last _ _ _ kept.epochs id (reader_view me.0) (at_map reader_view s.views id me.0 at);
      };
      is = refl;
    }

    -- the leaf fills an empty place
    filled_for : cell ≡ Leaf conn.slot way → t.cell p ≡ Empty → FillsFor digest t t' conn.slot key way p level
    filled_for put empty = record {
      on_path = on;
      empty = empty;
      filled = cell_here m digest layout s kept p inside (cell_word cell) ∙ (said_shown cell (λ mark. let no : Leaf conn.slot way ≡ Mark = sym put ∙ mark in cc) ∙ put);
      others = cell_else m digest layout s kept p inside (cell_word cell);
      parents = parent_else m digest layout s kept p inside (cell_word cell);
    }

    free_empty : t.cell p ≡ Empty → k.holder key ≡ None
    free_empty empty = kept.trie.ends key level p (record { on_path = on; is_end = subst IsEnd (sym empty) tt }) ∙ ap (λ c. holder_at t c key) empty

    named_filled : (filled : FillsFor digest t t' conn.slot key way p level) → HasNoted me.0.pools.notes conn.slot way (place_code p) → IsSettled me.0.turn → Names []
    named_filled filled noted settled digits l q slot w are on' is none = ⊎_elim
        (λ (e : q ≡ p).
        let leaf : Leaf conn.slot way ≡ Leaf slot w = sym filled.filled ∙ (ap t'.cell (sym e) ∙ is) in
        let slots : conn.slot ≡ slot = cc in
        let ways : way ≡ w = cc in
        (λ i. note_word layout s.words (sym slots i) (sym ways i)) ∙ (own_noted [] noted ∙ ap place_code (sym e)))
        (λ (ne : q ≢ p). kept.notes.named digits l q slot w are (filled_places (filled_back (fills_place digest t t' conn.slot key way p level filled)) on') (sym (filled.others q ne) ∙ is)
        (nobody_before turn_side s.views id me.0 (holding []) slot (note_field w) at (λ a. absurd (let no : None ≡ Some a.note = sym (settled a.mine a.has) ∙ a.ahead in cc)) none))
        (same_or_apart q p)

    held_by_filling : cell ≡ Leaf conn.slot way → HasNoted me.0.pools.notes conn.slot way (place_code p) → IsSettled me.0.turn →
        SeesLocked me.0.trie p Empty → IsCells m digest layout (stepped s word (cell_word cell) id me.1 (holding []) keeps)
    held_by_filling put noted settled sees =
        let empty = (stands_there m digest layout s id me kept at p inside Empty sees (λ mark. cc)).is in
        let free = free_empty empty in
        let changed = fills_place digest t t' conn.slot key way p level (filled_for put empty) in
        held_so [] free (subst IsEnd (sym empty) tt) sees.locked (λ mark. let no : Leaf conn.slot way ≡ Mark = sym put ∙ mark in
        cc) (named_filled (filled_for put empty) noted settled) (taken_moved m digest layout s kept id me.0 at k k' (holding []) []
        (λ i j h. absurd (omega (arith, h))) (λ node c. absurd (none_listed node c)) refl refl (λ slot. refl))
        (trie_filled trie_side digest layout kept.published k k' s.words words' s.views (set s.views id (holding [])) conn key way p level kept.trie (gives free) (filled_for put empty)
        (record { grown = (let sums = all_after [] in omega (arith, sums)); regained = back_after [] })
        (all_fit free [] sees.locked (λ digits l q are on'. filled_places changed on') (λ digits l q are on' ne. changed.others q ne)))

    -- new nodes lead on from the place to the leaf and to that of another key, which stood there
    module _ (leaf : LoadedLeaf) (first : ℕ) (nodes : List ℕ) (put : cell ≡ Node first) (known : me.0.trie.leaf ≡ Some leaf)
        (other_key : is_key leaf.key key ≡ false) (sees : SeesLocked me.0.trie p (Leaf leaf.slot leaf.way))
        (news : GrowsNodes digest layout me.0 conn.slot way key leaf p level first nodes)
        (noted : HasNoted me.0.pools.notes conn.slot way (place_code (foot_place (digits_of digest key) (level + 1) p nodes)))
        (moves : IsAheadTo me.0.turn leaf.slot leaf.way (place_code (foot_place (digits_of digest leaf.key) (level + 1) p nodes))) where
      abbrev mine : ℕ → ℕ
      mine = digits_of digest key

      abbrev theirs : ℕ → ℕ
      theirs = digits_of digest leaf.key

      node_put : cell ≢ Mark
      node_put mark = let no : Node first ≡ Mark = sym put ∙ mark in cc

      stood : t.cell p ≡ Leaf leaf.slot leaf.way
      stood = (stands_there m digest layout s id me kept at p inside (Leaf leaf.slot leaf.way) sees (λ mark. cc)).is

      leaf_stays : StaysLeaf layout.slots k t leaf
      leaf_stays = (kept.trie.each id me.0 at).leaf leaf known

      free_other : k.holder key ≡ None
      free_other =
          kept.trie.ends key level p (record { on_path = on; is_end = subst IsEnd (sym stood) tt })
          ∙ (ap (λ c. holder_at t c key) stood ∙ ((λ i. cond (is_key (leaf_stays.key i) key) (Some (leaf_found t leaf.slot leaf.way)) None)
          ∙ ap (λ b. cond b (Some (leaf_found t leaf.slot leaf.way)) None) other_key))

      -- no path meets a place of the pass's own nodes
      fresh : (digits : ℕ → ℕ) (l : ℕ) (q : Place) → AreDigits digits → IsOnPath digits t.cell l q → ¬ (IsPlaceOf nodes q)
      fresh digits l _ are at_root of = of
      fresh digits l _ are (further l' q' node on' is) of =
          unowned m digest layout s kept id me.0 node at (owns_there m digest layout s kept id me.0 at node (news.owned node of))
          (news.owned node of) (kept.trie.nodes digits l' q' node are on' is).published_once

      -- what the pass stored in their places stands there
      stored_stands : (node digit : ℕ) (c : Cell) → Contains nodes node → digit < 16 → c ≢ Mark →
          cell_stored layout me.0.pools.stored (Places.Node node digit) ≡ c → t'.cell (Places.Node node digit) ≡ c
      stored_stands node digit c has low full is =
          cell_else m digest layout s kept p inside (cell_word cell) (Places.Node node digit) (λ e. fresh mine level p (are_digits digest key) on (subst (IsPlaceOf nodes) e has))
          ∙ (cell_there layout s.words (Places.Node node digit) (owns_there m digest layout s kept id me.0 at node (news.owned node has), low)
          ∙ by_value (stored_value layout me.0.pools.stored (place_at layout (Places.Node node digit))) refl is)
        where
          by_value : (x : Option ℕ) → stored_value layout me.0.pools.stored (place_at layout (Places.Node node digit)) ≡ x →
              stored_cell x ≡ c → shown_of (slice_index s.words (place_at layout (Places.Node node digit))) ≡ c
          by_value None e stored = absurd (full (sym stored))
          by_value (Some n) e stored = ap shown_of ((kept.stored id me.0 at).stands (place_at layout (Places.Node node digit)) n e) ∙ (real_shown n (λ mark. full (sym stored ∙ mark)) ∙ stored)

      grows_branch : GrowsBranch mine theirs t.cell t'.cell (Leaf conn.slot way) (Leaf leaf.slot leaf.way) level p first nodes
      grows_branch = record {
        mine_there = on;
        theirs_there = subst (λ x. IsOnPath (digits_of digest x) t.cell level p) leaf_stays.key (kept.trie.homes mine level p leaf.slot leaf.way (are_digits digest key) on stood);
        was_end = subst IsEnd (sym stood) tt;
        leaf_ends = tt;
        other_ends = tt;
        hangs = cell_here m digest layout s kept p inside (cell_word cell) ∙ (said_shown cell node_put ∙ put);
        branch = branch_seen news.branch (are_digits digest key) (are_digits digest leaf.key) (omega arith) (λ e. cc) (λ e. cc) stored_stands;
        others = λ q ne other. cell_else m digest layout s kept p inside (cell_word cell) q ne;
        fresh = fresh;
        at_level = λ digits l are on'. kept.trie.levels digits mine l level p are (are_digits digest key) on' on;
      }

      grown_paths : PathsAfterGrowth mine theirs t.cell t'.cell (Leaf conn.slot way) (Leaf leaf.slot leaf.way) level p nodes
      grown_paths = growth_told mine theirs t.cell t'.cell (Leaf conn.slot way) (Leaf leaf.slot leaf.way) level p first nodes grows_branch

      -- they name their places as their parents
      named : NameParents mine (λ node code. t'.parent node ≡ code) (level + 1) p nodes
      named = names_so mine (IsParentStored layout me.0.pools.stored) (λ node code. t'.parent node ≡ code) (level + 1) p nodes
          (λ node code has is. parent_else m digest layout s kept p inside (cell_word cell) node ∙ (kept.stored id me.0 at).stands (field_at layout Nodes node parent_field) code is) news.parents

      -- the leaf that is moved is noted where it will stand, and the pass is ahead of no other note
      moved_noted : note_word layout s.words leaf.slot leaf.way ≡ place_code (foot_place theirs (level + 1) p nodes)
      moved_noted =
          let fits = kept.notes.ahead id me.0 moves.mine _ at moves.has moves.ahead in
          (λ i. note_word layout s.words (sym moves.there i) (same_note leaf.way fits.way fits.field_is i)) ∙ fits.stands

      ahead_of_that : (slot : ℕ) (w : Way) → IsAheadOf me.0.turn slot (note_field w) → (leaf.slot ≡ slot) × (leaf.way ≡ w)
      ahead_of_that slot w a =
          let same : moves.mine ≡ a.mine = (let e : Some moves.mine ≡ Some a.mine = sym moves.has ∙ a.has in cc) in
          let led : Ahead = record { field = note_field leaf.way; value = place_code (foot_place theirs (level + 1) p nodes) } in
          let note : led ≡ a.note = (let e : Some led ≡ Some a.note = sym moves.ahead ∙ (ap (λ (y : Turn S). y.ahead) same ∙ a.ahead) in cc) in
          (sym moves.there ∙ (ap (λ (y : Turn S). y.slot) same ∙ a.there), same_note leaf.way w (ap (λ (n : Ahead). n.field) note ∙ a.field_is))

      two_leaves : Leaf conn.slot way ≢ Leaf leaf.slot leaf.way
      two_leaves e =
          let slots : conn.slot ≡ leaf.slot = cc in
          let ways : way ≡ leaf.way = cc in
          keys_apart leaf.key key other_key (sym leaf_stays.key ∙ ((λ i. t.key (sym slots i) (sym ways i)) ∙ key_stands))

      named_grown : Names nodes
      named_grown digits l q slot w are on' is none = by_end (grown_paths.ends digits l q are (record { on_path = on'; is_end = subst IsEnd (sym is) tt }))
        where
          at_leaf : (slot' : ℕ) (w' : Way) → t'.cell q ≡ Leaf slot' w' → note_word layout s.words slot' w' ≡ place_code q → note_word layout s.words slot w ≡ place_code q
          at_leaf slot' w' e so =
              let same : Leaf slot' w' ≡ Leaf slot w = sym e ∙ is in
              let slots : slot' ≡ slot = cc in
              let ways : w' ≡ w = cc in
              (λ i. note_word layout s.words (sym slots i) (sym ways i)) ∙ so

          by_end : IsEndNow digits t.cell t'.cell (Leaf conn.slot way) (Leaf leaf.slot leaf.way) level p nodes l q → note_word layout s.words slot w ≡ place_code q
          by_end (end_stays was ne same) =
              let before : t.cell q ≡ Leaf slot w = sym same ∙ is in
              kept.notes.named digits l q slot w are was.on_path before (nobody_before turn_side s.views id me.0 (holding nodes) slot (note_field w) at (λ a.
              let that = ahead_of_that slot w a in
              let home = kept.trie.homes digits l q slot w are was.on_path before in
              let keys : t.key slot w ≡ leaf.key = (λ i. t.key (sym that.0 i) (sym that.1 i)) ∙ leaf_stays.key in
              absurd (ne (one_end (record { on_path = subst (λ x. IsOnPath (digits_of digest x) t.cell l q) keys home; is_end = subst IsEnd (sym before) tt })
              (record { on_path = grows_branch.theirs_there; is_end = grows_branch.was_end })).1)) none)
          by_end (end_grew was grown foot) =
              let below = grown.below in
              let within : Contains nodes (slice_index nodes (l - (level + 1))) = subst (IsPlaceOf nodes) grown.is grown.within in
              let low = are.node l (omega (arith, below)) in
              let full : Leaf conn.slot way ≢ Empty = (λ e. cc) in
              let other_full : Leaf leaf.slot leaf.way ≢ Empty = (λ e. cc) in
              ⊎_elim
              (λ (e : t'.cell q ≡ Empty). let clash : Empty ≡ Leaf slot w = sym e ∙ is in absurd cc)
              (λ leafy. ⊎_elim
              (λ (e : t'.cell q ≡ Leaf conn.slot way). at_leaf conn.slot way e (own_noted nodes noted ∙ ap place_code
              (sym (grown.is ∙ mine_foot grows_branch.leaf_ends grows_branch.other_ends full other_full two_leaves grows_branch.branch p _ (digits l) within low (ap t'.cell (sym grown.is) ∙ e)))))
              (λ (e : t'.cell q ≡ Leaf leaf.slot leaf.way). at_leaf leaf.slot leaf.way e (moved_noted ∙ ap place_code
              (sym (grown.is ∙ theirs_foot grows_branch.leaf_ends grows_branch.other_ends full other_full two_leaves grows_branch.branch p _
              (digits l) within low (ap t'.cell (sym grown.is) ∙ e)))))
              leafy)
              foot

      held_by_growing : IsCells m digest layout (stepped s word (cell_word cell) id me.1 (holding nodes) keeps)
      held_by_growing =
          held_so nodes free_other (subst IsEnd (sym stood) tt) sees.locked node_put named_grown
          (taken_moved m digest layout s kept id me.0 at k k' (holding nodes) nodes news.apart news.owned refl refl (λ slot. refl))
          (trie_grown trie_side digest layout kept.published k k' s.words words' s.views (set s.views id (holding nodes)) conn key way leaf p level first nodes kept.trie
          (gives free_other) leaf_stays (kept.trie.leaves mine level p leaf.slot leaf.way (are_digits digest key) on stood) other_key stood grows_branch news.apart
          (λ node has. owns_there m digest layout s kept id me.0 at node (news.owned node has)) may.key_stored.five (parent_else m digest layout s kept p inside (cell_word cell)) named
          (let sums = all_after nodes in omega (arith, sums)) (back_after nodes)
          (all_fit free_other nodes sees.locked grown_paths.old_places (λ digits l q are on' ne. cell_else m digest layout s kept p inside (cell_word cell) q ne)))

    -- either way the key is held
    abbrev pub Holds : List ℕ → Type 0
    Holds nodes = IsCells m digest layout (stepped s word (cell_word cell) id me.1 (holding nodes) keeps) × HasHeld m digest layout conn key way p cell me (holding nodes, me.1)

    pub holds : (nodes : List ℕ) → PutsFor digest layout me.0 conn key way p cell nodes →
        HasNoted me.0.pools.notes conn.slot way (place_code (foot_place (digits_of digest key) (level + 1) p nodes)) → MovesLeaf digest me.0 p nodes → Holds nodes
    holds nodes puts noted moves = by_puts cell nodes puts refl refl
      where
        noted_as : (news : List ℕ) → nodes ≡ news → HasNoted me.0.pools.notes conn.slot way (place_code (foot_place (digits_of digest key) (level + 1) p news))
        noted_as news same = subst (λ ns. HasNoted me.0.pools.notes conn.slot way (place_code (foot_place (digits_of digest key) (level + 1) p ns))) same noted

        -- there is a node at least
        ahead_to : (leaf : LoadedLeaf) (first : ℕ) (news : List ℕ) → me.0.trie.leaf ≡ Some leaf → GrowsNodes digest layout me.0 conn.slot way key leaf p level first news → nodes ≡ news →
            IsAheadTo me.0.turn leaf.slot leaf.way (place_code (foot_place (digits_of digest leaf.key) (level + 1) p news))
        ahead_to leaf first [] known grown same = absurd (let some' = branch_long grown.branch in omega (arith, some'))
        ahead_to leaf first (node ∷ news) known grown same = (subst (MovesLeaf digest me.0 p) same moves) leaf known

        by_puts : (cell' : Cell) (nodes' : List ℕ) → PutsFor digest layout me.0 conn key way p cell' nodes' → cell ≡ cell' → nodes ≡ nodes' → Holds nodes
        by_puts _ _ (fills sees) is none = (
          subst (λ ns. IsCells m digest layout (stepped s word (cell_word cell) id me.1 (holding ns) keeps)) (sym none)
              (held_by_filling is (subst (λ ns. HasNoted me.0.pools.notes conn.slot way (place_code (foot_place (digits_of digest key) (level + 1) p ns))) none noted)
              (subst (MovesLeaf digest me.0 p) none moves) sees),
          has_held nodes puts (free_empty (stands_there m digest layout s id me kept at p inside Empty sees (λ mark. cc)).is),
        )
        by_puts _ _ (grows leaf first news known other_key sees grown) is same = (
          subst (λ ns. IsCells m digest layout (stepped s word (cell_word cell) id me.1 (holding ns) keeps)) (sym same)
              (held_by_growing leaf first news is known other_key sees grown (noted_as news same) (ahead_to leaf first news known grown same)),
          has_held nodes puts (free_other leaf first news is known other_key sees grown (noted_as news same) (ahead_to leaf first news known grown same)),
        )

  pub may_publish_for : (st : Step (Running S)) (id n : ℕ) (conn : ConnId) (key : Key) (way : Way) (p : Place) (cell : Cell) (me : Me (Running S) (CellView S A R)) →
      IsInTrie layout p → me.0.seats.lives ≡ true → me.0.seats.theirs ≡ [] → 1 ≤ length me.0.seats.readers → IsProtected me.0.epochs.pin →
      MayPublishFor m digest layout me.0 conn key way p cell →
      Allows (IsCells m digest layout) n id me (place_at layout p) (λ _. cell_word cell) (λ _. PublishesFor m digest layout conn key way p cell st me (cell_word cell))
  may_publish_for st id n conn key way p cell me inside lives settled place stays may s kept homes at bound =
      let both = holds s id me kept at lives settled place stays conn key way p inside cell may may.nodes may.puts may.noted may.moves in (
        holding s id me kept at lives settled place stays conn key way p inside cell may may.nodes,
        keeps,
        tt,
        both.0,
        record { held = both.1 },
      )
