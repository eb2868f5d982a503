-- A new table keeps the rule.
use Rattle.std.specs.List.{Contains}
use Rattle.std.proofs.Common.{◌≡◌, ℕ, zero, suc, ◌+◌, ◌<◌, ◌≤◌, ◌⊎◌, Bool, true, false, cond, Some, None, List, [], ◌∷◌, map, slice_index, replicate, refl, sym, ap, ◌∙◌, subst, ⊎_elim, arith}
use Rattle.std.proofs.lemmas.List.{get_or-set_same, length-map, length-replicate, Sums.sum_by-cons}
use mathlib.Core.Option.{some, some-injective, some-ne-none}
use lib.ListN.{get_elem?}
use Rattle.atomic_table.{specs.Table.opening as table_opening, proofs.Lists.at_map}
use Rattle.npf_types.specs.declared.key.{Key.Key, Way.Way}
use Rattle.npf_core.specs.{declared.{conn_id.ConnId.ConnId, slot.Slot.Slot}, Machine.{opening, HoldsNone}, Meaning.Meaning}
use Rattle.npf_connections.specs.Pass.{all_places}
use Rattle.npf_paths.{specs.declared.{cell.Cell.TheVariants.{Empty, Leaf, Node}, place.{Lock.Lock, Place.Place}}, proofs.LevelLemmas.bare_has_levels}
use Rattle.npf_paths.specs.declared.place.Lock.TheVariants as Locking
use Rattle.npf_cells_words.specs.declared.layout.{Layout.Layout, Pool.{Pool, TheVariants.{Slots, Nodes}}}
use Rattle.npf_cells_words.specs.Layout.{turn_field, inc_field, phase_field, notes_field, note_field, state_field, field_at, word_count, epoch_word, reader_word}
use Rattle.npf_cells_words.specs.{Opening.opening_words, declared.mark.{Emptied.Emptied, Marked.Marked, MetMark.MetMark}}
use Rattle.npf_cells_words.specs.{MarkWords.{shown_of, state_word, IsMarkOf}, Places.{lock_at, is_in_trie, place_at}}
use Rattle.npf_cells_words.proofs.{WordLemmas.{field_behind, lock_behind, place_behind}, OpeningLemmas.{start_zero, count, before, behind, clear, past}}
use Rattle.npf_seats.{specs.Sums.occurs, proofs.{PrefixLemmas.none_listed, SeatLemmas.{cases_lt, seats-first}}}
use Rattle.npf_cells_pins.{specs.Epochs.{ReaderView, pin_place, FitsEpochs, all_raises}, proofs.EpochLemmas.idle_holds}
use Rattle.npf_cells_leaves.{specs.Trie.{trie_words, holder_at, FitsTrie}, proofs.TrieLemmas.fits_unread}
use Rattle.npf_cells_lives.specs.{declared.{pools.Note.Note, turn.{Ahead.Ahead, Said.Said, Turn.Turn}}, Notes.{note_word, IsFirm, FitsAhead, FitsNote, Notes}}
use Rattle.npf_cells_lives.specs.Conns.{FitsBuilds, inc_word, unstored_by, entry_seat}
use Rattle.npf_cells_lives.specs.{Deaths.{first_note, has_epoch, slots_named, unreclaimed, FitsKill, FitsReclaim, Deaths}, Known.Known}
use Rattle.npf_cells_lives.{proofs.FreedLemmas.{gone_in, freed_none}, specs.{Locks.{has_lock, lock_holders, held_in}, Pools.taken, Stored.FitsStored}}
use Rattle.npf_cells_lives.proofs.{ConnLemmas.fits_nothing, StoredLemmas.fits_unstored}
use Rattle.npf_cells_marks.specs.Marks.{FitsEmptied, FitsMarked, FitsMet, Marks}
use Rattle.npf_cells_rule.specs.{declared.view.CellView.CellView, Cells.{FitsAlone, IsCells, first_cell_view}}
use Rattle.npf_cells_rule.specs.{Views.{reader_view, lock_side, pool_side, turn_side, death_side, seen_side, mark_side}, Readers.readers_in_turn}
use Rattle.npf_cells_lives.specs.Turns.{Running, running, stage_phase, has_turn, turn_holders, FitsTurn, Turns}
use Rattle.npf_cells_rule.proofs.ReaderLemmas.{in_turn_once, in_turn_never, length-in_turn}

-- no cell is said by 0
nothing_in : (b : Bool) (word : ℕ) → word ≡ 0 → cond b (shown_of word) Empty ≡ Empty
nothing_in true word e = ap shown_of e
nothing_in false word e = refl

-- what stands in each place of copies
replicated : {X : Type 0} (x : X) (n i : ℕ) → i < n → get_elem? (replicate n x) i ≡ some x
replicated x zero i h = absurd (omega (arith, h))
replicated x (suc n) zero h = refl
replicated x (suc n) (suc i) h = replicated x n i (omega (arith, h))

module _ {S A R : Type 0} (layout : Layout) where
  abbrev view : CellView S A R
  view = first_cell_view layout

  -- no place is taken
  untaken : (v : CellView S A R) → v.pools.nodes ≡ [] → v.pools.unfreed ≡ [] → (pool : Pool) (p : ℕ) → taken {S = S} pool_side [] opening (v ∷ []) pool p ≡ 0
  untaken v none also Slots p = refl
  untaken v none also Nodes p =
      let a = sum_by-cons (λ (u : CellView S A R). occurs p u.pools.nodes) v [] in
      let b : occurs p v.pools.nodes ≡ 0 = ap (occurs p) none in
      let c = sum_by-cons (λ (u : CellView S A R). occurs p u.pools.unfreed) v [] in
      let d : occurs p v.pools.unfreed ≡ 0 = ap (occurs p) also in
      omega (arith, a, b, c, d)

  -- the rule of a new table
  pub opens : (m : Meaning S A R) (digest : Key → ℕ) (words : List ℕ) (homes : List (Running S)) → words ≡ opening_words layout →
      homes ≡ replicate layout.slots None → IsCells m digest layout (table_opening words homes (first_cell_view {S = S} {A = A} {R = R} layout))
  opens m digest words homes is vacant = rw (is, vacant) (record {
    log = [];
    published = [];
    seats = seats-first entry_seat layout.slots all_places readers_in_turn in_turn_once in_turn_never length-in_turn;
    epochs = record {
      from = omega (arith, epoch);
      most = omega (arith, epoch);
      counted = (let none : all_raises (reader_view view ∷ []) ≡ 0 = sum_by-cons (λ (u : ReaderView). u.side.raises) (reader_view view) [] in omega (arith, epoch, none));
      each = each;
      scans = λ i j r q e d c. absurd (nobody i r e (pin_place q.places) c);
    };
    pools = record {
      reach = (let a = count layout in omega (arith, a));
      bits = λ pool p h. clear layout pool p h ∙ sym (untaken view refl refl pool p);
      past = past layout;
      beyond = λ p h. untaken view refl refl Nodes p;
    };
    trie = record {
      ends = λ key level p end. sym (ap (λ cell. holder_at (trie_words layout (opening_words layout)) cell key) (blank p));
      leaves = λ digits level p slot way are on e. absurd (let no : Empty ≡ Leaf slot way = sym (blank p) ∙ e in cc);
      nodes = λ digits level p node are on e. absurd (let no : Empty ≡ Node node = sym (blank p) ∙ e in cc);
      homes = λ digits level p slot way are on e. absurd (let no : Empty ≡ Leaf slot way = sym (blank p) ∙ e in cc);
      levels = bare_has_levels (trie_words layout (opening_words layout)).cell (λ p. rw (blank p) tt);
      parents = λ digits level p node are on e. absurd (let no : Empty ≡ Node node = sym (blank p) ∙ e in cc);
      hang = λ node c. absurd (none_listed node c);
      counted = (let up = sum_by-cons (λ (u : CellView S A R). u.trie.grown) view [] in let back = sum_by-cons (λ (u : CellView S A R). u.trie.regained) view [] in omega (arith, up, back));
      each = unread;
    };
    connections = record { reach = count layout; legal = tt; each = builds_none; incs = no_incs };
    stored = unstored;
    locks = record {
      says = λ lock h. unheld lock ∙ ap held_in (sym (unlocked lock));
      bit = λ digit h. (let none = unlocked (Locking.Root digit) in omega (arith, none));
      alone = λ lock h. (let none = unheld lock in omega (arith, none));
    };
    turns = first_turns;
    deaths = first_deaths;
    known = first_known;
    notes = first_notes;
    marks = first_marks;
    alone = alone;
  })
    where
      epoch : epoch_word (opening_words layout) ≡ 2
      epoch = before layout 0 (omega arith) ∙ get_or-set_same (replicate (word_count layout) 0) 0 2 0 (let a = length-replicate {A = ℕ} (word_count layout) 0 in omega (arith, a))

      first_reads : FitsEpochs (epoch_word (opening_words layout)) (reader_word (opening_words layout)) (reader_view view)
      first_reads = record {
        loaded = omega arith;
        greatest = omega arith;
        known = omega arith;
        guards = tt;
        kept = λ place owns. before layout (1 + place) (let low = within place owns in omega (arith, low))
            ∙ (start_zero layout (1 + place) (omega arith) ∙ sym (idle_holds (reader_view view) refl place));
        pinned = λ _. refl;
      }
        where
          within : (place : ℕ) → 1 ≤ occurs place readers_in_turn → place < all_places
          within place owns = ⊎_elim (λ h. h) (λ (h : all_places ≤ place). let none = in_turn_never place h in absurd (omega (arith, none, owns))) (cases_lt place all_places)

      each : (j : ℕ) (r : ReaderView) → get_elem? (reader_view view ∷ []) j ≡ some r → FitsEpochs (epoch_word (opening_words layout)) (reader_word (opening_words layout)) r
      each zero r e = subst (λ (u : ReaderView). FitsEpochs (epoch_word (opening_words layout)) (reader_word (opening_words layout)) u) (some-injective _ _ e) first_reads
      each (suc j) r e = absurd (some-ne-none r (sym e))

      nobody : (j : ℕ) (r : ReaderView) → get_elem? (reader_view view ∷ []) j ≡ some r → (place : ℕ) → Contains r.side.scanned place → ⊥
      nobody zero r e place c = none_listed place (subst (λ (u : ReaderView). Contains u.side.scanned place) (sym (some-injective _ _ e)) c)
      nobody (suc j) r e place c = absurd (some-ne-none r (sym e))

      -- nothing stands in the trie
      blank : (p : Place) → (trie_words layout (opening_words layout)).cell p ≡ Empty
      blank p = nothing_in (is_in_trie layout p) (slice_index (opening_words layout) (place_at layout p)) (behind layout (place_at layout p) (place_behind layout p))

      unread : (j : ℕ) (v : CellView S A R) → get_elem? (view ∷ []) j ≡ some v → FitsTrie {S = S} digest layout.slots opening (trie_words layout (opening_words layout)) v.trie
      unread zero v e = subst (λ (u : CellView S A R). FitsTrie {S = S} digest layout.slots opening (trie_words layout (opening_words layout)) u.trie) (some-injective _ _ e)
          (fits_unread digest layout.slots opening (trie_words layout (opening_words layout)))
      unread (suc j) v e = absurd (some-ne-none v (sym e))

      unstored : (j : ℕ) (v : CellView S A R) → get_elem? (view ∷ []) j ≡ some v → FitsStored layout (opening_words layout) v.pools
      unstored zero v e = subst (λ (u : CellView S A R). FitsStored layout (opening_words layout) u.pools) (some-injective _ _ e) (fits_unstored layout (opening_words layout) view.pools refl)
      unstored (suc j) v e = absurd (some-ne-none v (sym e))

      unlocked : (lock : Lock) → slice_index (opening_words layout) (lock_at layout lock) ≡ 0
      unlocked lock = behind layout (lock_at layout lock) (lock_behind layout lock)

      unheld : (lock : Lock) → lock_holders lock_side layout (view ∷ []) lock ≡ 0
      unheld lock = sum_by-cons (λ (u : CellView S A R). has_lock layout lock u.trie.locks) view []

      no_turns : (slot : ℕ) → turn_holders turn_side (view ∷ []) slot ≡ 0
      no_turns slot = sum_by-cons (λ (u : CellView S A R). has_turn slot u.turn) view []

      none_gone : (slot : ℕ) → gone_in death_side (view ∷ []) slot ≡ 0
      none_gone slot =
          let one = sum_by-cons (λ (u : CellView S A R). occurs slot (slots_named u.pools.reclaims)) view [] in
          let two = sum_by-cons (λ (u : CellView S A R). occurs slot (slots_named u.pools.cleared)) view [] in
          omega (arith, one, two)

      as_opened : (slot : ℕ) → (unreclaimed {S = S} death_side (view ∷ []) opening).slot slot ≡ opening.slot slot
      as_opened slot = freed_none death_side (view ∷ []) opening slot (none_gone slot)

      first_turns : Turns {S = S} turn_side layout (unreclaimed death_side (view ∷ []) opening) (opening_words layout) (map some (replicate layout.slots None)) (view ∷ [])
      first_turns = record {
        reach = length-map (replicate layout.slots None) some ∙ length-replicate layout.slots None;
        says = λ slot h. behind layout (field_at layout Slots slot turn_field) (omega arith) ∙ sym (no_turns slot);
        alone = λ slot h. (let none = no_turns slot in omega (arith, none));
        home = λ slot h none. record {
          there = at_map some (replicate layout.slots None) slot None (replicated None layout.slots slot h) ∙ ap (λ (x : Slot S). some (some (running x.stage))) (sym (as_opened slot));
          phase = behind layout (field_at layout Slots slot phase_field) (omega arith) ∙ ap (λ (x : Slot S). stage_phase x.stage) (sym (as_opened slot));
        };
        each = turnless;
      }
        where
          turnless : (j : ℕ) (v : CellView S A R) (turn : Turn S) → get_elem? (view ∷ []) j ≡ some v → v.turn ≡ Some turn →
              FitsTurn {S = S} layout (unreclaimed death_side (view ∷ []) opening) (opening_words layout) turn
          turnless zero v turn e has = absurd (let no : None ≡ Some turn = ap (λ (u : CellView S A R). u.turn) (some-injective _ _ e) ∙ has in cc)
          turnless (suc j) v turn e has = absurd (some-ne-none v (sym e))

      first_deaths : Deaths {S = S} death_side layout opening (opening_words layout) (view ∷ [])
      first_deaths = record {
        counted = λ slot h.
            let sum = sum_by-cons (λ (u : CellView S A R). occurs slot (slots_named u.pools.kills)) view [] in
            let note : has_epoch (first_note layout (opening_words layout) slot) ≡ 0 = ap has_epoch (no_note slot) in
            let gone = none_gone slot in
            omega (arith, sum, note, gone);
        reclaimed = λ slot h. (let gone = none_gone slot in omega (arith, gone));
        kills = no_kills;
        reclaims = no_reclaims;
        left = λ slot epoch h note. absurd (let none = no_note slot in omega (arith, note, none));
        dated = λ slot epoch h note. absurd (let none = no_note slot in omega (arith, note, none));
        dates = undated;
      }
        where
          no_note : (slot : ℕ) → first_note layout (opening_words layout) slot ≡ 0
          no_note slot = behind layout (field_at layout Slots slot notes_field) (omega arith)

          undated : (j : ℕ) (v : CellView S A R) → get_elem? (view ∷ []) j ≡ some v → v.pools.dated ≤ epoch_word (opening_words layout)
          undated zero v e = (let none : v.pools.dated ≡ 0 = ap (λ (u : CellView S A R). u.pools.dated) (sym (some-injective _ _ e)) in omega (arith, none))
          undated (suc j) v e = absurd (some-ne-none v (sym e))

          no_kills : (j : ℕ) (v : CellView S A R) (id : ConnId) → get_elem? (view ∷ []) j ≡ some v → Contains v.pools.kills id →
              FitsKill {S = S} death_side opening (epoch_word (opening_words layout)) (view ∷ []) v.epochs.loaded id
          no_kills zero v id e c = absurd (none_listed id (subst (λ (u : CellView S A R). Contains u.pools.kills id) (sym (some-injective _ _ e)) c))
          no_kills (suc j) v id e c = absurd (some-ne-none v (sym e))

          no_reclaims : (j : ℕ) (v : CellView S A R) (id : ConnId) → get_elem? (view ∷ []) j ≡ some v →
              Contains v.pools.reclaims id ⊎ Contains v.pools.cleared id → FitsReclaim {S = S} death_side opening (view ∷ []) id
          no_reclaims zero v id e c = absurd (⊎_elim
              (λ (a : Contains v.pools.reclaims id). none_listed id (subst (λ (u : CellView S A R). Contains u.pools.reclaims id) (sym (some-injective _ _ e)) a))
              (λ (b : Contains v.pools.cleared id). none_listed id (subst (λ (u : CellView S A R). Contains u.pools.cleared id) (sym (some-injective _ _ e)) b))
              c)
          no_reclaims (suc j) v id e c = absurd (some-ne-none v (sym e))

      first_known : Known {S = S} (seen_side m) pool_side opening (view ∷ [])
      first_known zero v id e c = absurd (none_listed id (subst (λ (u : CellView S A R). Contains u.pools.kills id) (sym (some-injective _ _ e)) c))
      first_known (suc j) v id e c = absurd (some-ne-none v (sym e))

      first_notes : Notes {S = S} turn_side pool_side layout (trie_words layout (opening_words layout)).cell opening (opening_words layout) (view ∷ [])
      first_notes = record {
        named = λ digits level p slot way are on e none. absurd (let no : Empty ≡ Leaf slot way = sym (blank p) ∙ e in cc);
        bare = λ slot way within live none. absurd (let no : 0 ≡ 1 = live in cc);
        given = killless;
        said = untold;
        ahead = aheadless;
        each = noteless;
      }
        where
          killless : (j : ℕ) (v : CellView S A R) (id : ConnId) (way : Way) → get_elem? (view ∷ []) j ≡ some v → Contains v.pools.kills id →
              ¬ Contains v.pools.gave_up (record { id = id; way = way }) → HoldsNone {S = S} opening id way → note_word layout (opening_words layout) id.slot way ≡ 0
          killless zero v id way e c not none = absurd (none_listed id (subst (λ (u : CellView S A R). Contains u.pools.kills id) (sym (some-injective _ _ e)) c))
          killless (suc j) v id way e c not none = absurd (some-ne-none v (sym e))

          untold : (j : ℕ) (v : CellView S A R) (turn : Turn S) (said : Said) (way : Way) → get_elem? (view ∷ []) j ≡ some v → v.turn ≡ Some turn →
              turn.said ≡ Some said → IsFirm v.pools.kills turn said → said.field ≡ note_field way → note_word layout (opening_words layout) turn.slot way ≡ said.value
          untold zero v turn said way e has is firm field = absurd (let no : None ≡ Some turn = ap (λ (u : CellView S A R). u.turn) (some-injective _ _ e) ∙ has in cc)
          untold (suc j) v turn said way e has is firm field = absurd (some-ne-none v (sym e))

          aheadless : (j : ℕ) (v : CellView S A R) (turn : Turn S) (note : Ahead) → get_elem? (view ∷ []) j ≡ some v → v.turn ≡ Some turn →
              turn.ahead ≡ Some note → FitsAhead {S = S} layout opening (opening_words layout) turn.slot note
          aheadless zero v turn note e has is = absurd (let no : None ≡ Some turn = ap (λ (u : CellView S A R). u.turn) (some-injective _ _ e) ∙ has in cc)
          aheadless (suc j) v turn note e has is = absurd (some-ne-none v (sym e))

          noteless : (j : ℕ) (v : CellView S A R) (note : Note) → get_elem? (view ∷ []) j ≡ some v →
              Contains v.pools.notes note → FitsNote {S = S} layout opening (opening_words layout) v.pools.builds note
          noteless zero v note e c = absurd (none_listed note (subst (λ (u : CellView S A R). Contains u.pools.notes note) (sym (some-injective _ _ e)) c))
          noteless (suc j) v note e c = absurd (some-ne-none v (sym e))

      first_marks : Marks mark_side layout [] (opening_words layout) (view ∷ [])
      first_marks = record {
        placed = λ p node inside is. absurd (no_mark p node is);
        held = λ j v p node e inside is c. absurd (no_mark p node is);
        marks = markless;
        emptied = nothing_emptied;
        met = nothing_met;
        unfreed = all_freed;
        states = λ node exists e. absurd (let none = no_epoch node in omega (arith, none, e));
      }
        where
          no_mark : (p : Place) (node : ℕ) → ¬ (IsMarkOf layout (opening_words layout) p node)
          no_mark p node is = let none = behind layout (place_at layout p) (place_behind layout p) in omega (arith, none, is)

          no_epoch : (node : ℕ) → has_epoch (state_word layout (opening_words layout) node) ≡ 0
          no_epoch node = ap has_epoch (behind layout (field_at layout Nodes node state_field) (field_behind layout Nodes node state_field))

          markless : (j : ℕ) (v : CellView S A R) (x : Marked) → get_elem? (view ∷ []) j ≡ some v → Contains v.trie.marks x →
              FitsMarked mark_side layout [] (opening_words layout) (view ∷ []) (mark_side v) x
          markless zero v x e c = absurd (none_listed x (subst (λ (u : CellView S A R). Contains u.trie.marks x) (sym (some-injective _ _ e)) c))
          markless (suc j) v x e c = absurd (some-ne-none v (sym e))

          nothing_emptied : (j : ℕ) (v : CellView S A R) (x : Emptied) → get_elem? (view ∷ []) j ≡ some v → v.trie.emptied ≡ Some x → FitsEmptied layout [] (opening_words layout) (mark_side v) x
          nothing_emptied zero v x e has = absurd (let no : None ≡ Some x = ap (λ (u : CellView S A R). u.trie.emptied) (some-injective _ _ e) ∙ has in cc)
          nothing_emptied (suc j) v x e has = absurd (some-ne-none v (sym e))

          nothing_met : (j : ℕ) (v : CellView S A R) (x : MetMark) → get_elem? (view ∷ []) j ≡ some v → v.trie.met_mark ≡ Some x → FitsMet layout (opening_words layout) (mark_side v) x
          nothing_met zero v x e has = absurd (let no : None ≡ Some x = ap (λ (u : CellView S A R). u.trie.met_mark) (some-injective _ _ e) ∙ has in cc)
          nothing_met (suc j) v x e has = absurd (some-ne-none v (sym e))

          all_freed : (j : ℕ) (v : CellView S A R) (node : ℕ) → get_elem? (view ∷ []) j ≡ some v → Contains v.pools.unfreed node →
              (node < layout.nodes) × (has_epoch (state_word layout (opening_words layout) node) ≡ 1)
          all_freed zero v node e c = absurd (none_listed node (subst (λ (u : CellView S A R). Contains u.pools.unfreed node) (sym (some-injective _ _ e)) c))
          all_freed (suc j) v node e c = absurd (some-ne-none v (sym e))

      alone : (j : ℕ) (v : CellView S A R) → get_elem? (view ∷ []) j ≡ some v → FitsAlone v
      alone zero v e = subst (λ (u : CellView S A R). FitsAlone u) (some-injective _ _ e)
          (record {
            out = λ _. record { stands = refl; leaf = refl; seen = refl; meets = refl; answered = refl; locks = refl };
            spent = λ none. absurd (let long = length-in_turn in omega (arith, none, long));
          })
      alone (suc j) v e = absurd (some-ne-none v (sym e))

      builds_none : (j : ℕ) (v : CellView S A R) → get_elem? (view ∷ []) j ≡ some v → FitsBuilds {S = S} opening j v.pools.builds v.pools.unstored
      builds_none zero v e = subst (λ (u : CellView S A R). FitsBuilds {S = S} opening 0 u.pools.builds u.pools.unstored) (some-injective _ _ e) (fits_nothing opening 0)
      builds_none (suc j) v e = absurd (some-ne-none v (sym e))

      no_incs : (slot : ℕ) → slot < layout.slots → inc_word layout (opening_words layout) slot + unstored_by pool_side (view ∷ []) slot ≡ 0
      no_incs slot h =
          let word = behind layout (field_at layout Slots slot inc_field) (omega arith) in
          let sum = sum_by-cons (λ (u : CellView S A R). occurs slot u.pools.unstored) view [] in
          omega (arith, word, sum)
