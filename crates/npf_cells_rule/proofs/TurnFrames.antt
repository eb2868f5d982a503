-- A step on the word of a slot's turn or of its phase leaves all parts but that on turns.
use Rattle.std.proofs.Common.{◌≡◌, ◌≢◌, ℕ, ◌+◌, ◌<◌, List, [], ◌∷◌, set, slice_index, refl, sym, ap, subst, ⊎_elim, arith, length-set, inl, ◌∙◌}
use Rattle.std.{specs.List.Contains, proofs.lemmas.List.get_or-set_other}
use mathlib.Core.Option.{some}
use lib.ListN.{get_elem?}
use Rattle.atomic_table.specs.Table.{State}
use Rattle.npf_types.specs.declared.key.{Key.Key, Way.Way}
use Rattle.npf_core.specs.{declared.{conn_id.ConnId.ConnId, stage.Stage.TheVariants.Dead}, History.state_of, Machine.{Machine, stage_of, IsClaimed}}
use Rattle.npf_core.specs.{Meaning.Meaning, declared.entry.Entry.Entry}
use Rattle.npf_connections.specs.Pass.{all_places}
use Rattle.npf_paths.specs.declared.place.Lock.{Lock}
use Rattle.npf_cells_words.specs.declared.layout.{Layout.Layout, Pool.{Pool, TheVariants.{Slots, Nodes}}}
use Rattle.npf_cells_words.specs.Layout.{root_at, turn_field, inc_field, parent_field, phase_field, key_field, field_at, notes_field, note_field}
use Rattle.npf_cells_words.specs.Places.{lock_at, IsLockOf, place_at}
use Rattle.npf_cells_words.proofs.WordLemmas.{field_behind, note_late, note_soon, key_far, key_short, not_slot, slot_apart}
use Rattle.npf_seats.{specs.{declared.side.SeatSide.SeatSide, Seats.Seats}, proofs.SumLemmas.side_same}
use Rattle.npf_cells_pins.specs.declared.pin.EpochSide.{EpochSide}
use Rattle.npf_cells_leaves.{specs.Trie.{key_word, trie_words}, proofs.TrieLemmas.{KeepsTrie, KnowsNoMore, cell_kept, knows_same, trie_same}}
use Rattle.npf_cells_lives.specs.{declared.pools.PoolSide.PoolSide, Conns.{inc_word, entry_seat}, Deaths.unreclaimed, Pools.taken}
use Rattle.npf_cells_lives.specs.{Stored.{IsOwnField, FitsStored, StoredWords}, Turns.{Homes, IsTurnField, Running, StaysAt, Turns}}
use Rattle.npf_cells_lives.proofs.{ConnLemmas.{builds-kept, unstored-set, conns-same}, DeathLemmas.spares_all, LockLemmas.{locks-same, holders-set}}
use Rattle.npf_cells_lives.proofs.{NoteLemmas.{SameAhead, NotesStay}, PoolLemmas.{pools-kept, taken-set}, StoredLemmas.{stored_kept, stored-set, no_turn}}
use Rattle.npf_cells_rule.specs.{declared.view.CellView.CellView, Cells.{FitsAlone, IsCells}}
use Rattle.npf_cells_rule.specs.Views.{seat_side, lock_side, pool_side, trie_side, turn_side, dead_hand, death_side}
use Rattle.npf_cells_rule.proofs.{DeathFrames.{rests_less, deaths_on, known_apart}, MarkFrames.{MeetsNoMore, marks_on, meets_same, words_slot}}
use Rattle.npf_cells_rule.proofs.Frames.{alone-set, framed, epochs_apart, notes_apart, same_kills}

module _ {S A R : Type 0} (m : Meaning S A R) (digest : Key → ℕ) (layout : Layout) where
  module _ (s : State (Running S) (CellView S A R)) (kept : IsCells m digest layout s) (slot field n : ℕ) (within : slot < layout.slots) (is : IsTurnField field) where
    abbrev pub word : ℕ
    word = field_at layout Slots slot field

    abbrev pub words' : List ℕ
    words' = set s.words word n

    abbrev k : Machine S
    k = state_of m kept.log

    short : field < 3
    short = ⊎_elim (λ (turn : field ≡ turn_field). omega (arith, turn)) (λ (phase : field ≡ phase_field). omega (arith, phase)) is

    pub other_word : (j : ℕ) → j ≢ word → slice_index words' j ≡ slice_index s.words j
    other_word j ne = get_or-set_other s.words word j n 0 ne

    pub below : (j : ℕ) → j < root_at layout → slice_index words' j ≡ slice_index s.words j
    below j h = other_word j (λ e. absurd (let behind = field_behind layout Slots slot field in omega (arith, e, h, behind)))

    pub inc_else : (p : ℕ) → inc_word layout words' p ≡ inc_word layout s.words p
    inc_else p = other_word (field_at layout Slots p inc_field) (λ e. ⊎_elim
        (λ (turn : field ≡ turn_field). absurd (omega (arith, turn, e)))
        (λ (phase : field ≡ phase_field). absurd (omega (arith, phase, e)))
        is)

    pub lock_else : (lock : Lock) → IsLockOf layout lock → slice_index words' (lock_at layout lock) ≡ slice_index s.words (lock_at layout lock)
    lock_else lock h = other_word (lock_at layout lock) (λ e. not_slot layout slot field lock h (sym e))

    pub own_else : (side : PoolSide) (pool : Pool) (place f : ℕ) → IsOwnField layout side pool place f →
        slice_index words' (field_at layout pool place f) ≡ slice_index s.words (field_at layout pool place f)
    own_else side pool place f own = other_word (field_at layout pool place f) (λ e. no_turn layout side pool place f slot field own within is (sym e))

    -- the trie stays where the holders do, and what is claimed
    pub keeps_trie : (k' : Machine S) → ((key : Key) → k'.holder key ≡ k.holder key) → ((id : ConnId) → IsClaimed (stage_of k id) → IsClaimed (stage_of k' id)) →
        ((id : ConnId) → stage_of k id ≡ Dead → stage_of k' id ≡ Dead) → KeepsTrie layout.slots k k' (trie_words layout s.words) (trie_words layout words')
    keeps_trie k' holder claimed dead = record {
      holder = holder;
      claimed = claimed;
      dead = dead;
      cells = λ digits are level p on. cell_kept layout s.words words' p (λ there. other_word (place_at layout p) (λ e. slot_apart layout p slot field there (sym e)));
      parents = λ digits level p node are on is. other_word (field_at layout Nodes node parent_field)
          (λ e. absurd (let in' = (kept.trie.nodes digits level p node are on is).exists in omega (arith, in', e)));
      keys = λ p way right. λ i. record {
        0 = key_same p way 0 (omega arith) i ∷ key_same p way 1 (omega arith) i ∷
            key_same p way 2 (omega arith) i ∷ key_same p way 3 (omega arith) i ∷ key_same p way 4 (omega arith) i ∷ [];
      };
      incs = λ p way right. inc_else p;
    }
      where
        key_same : (p : ℕ) (way : Way) (place : ℕ) → place < 5 → key_word layout words' p way place ≡ key_word layout s.words p way place
        key_same p way place h =
            let far = key_far way place in
            let near = key_short way place h in
            let low = short in
            other_word (field_at layout Slots p (key_field way + place)) (λ e. absurd (omega (arith, far, near, low, e)))

    -- and the notes
    pub notes_stay : (k' : Machine S) → ((key : Key) → k'.holder key ≡ k.holder key) → ((p : ℕ) → StaysAt (k.slot p) (k'.slot p)) →
        NotesStay layout k k' (trie_words layout s.words).cell (trie_words layout words').cell s.words words'
    notes_stay k' holder slots = record {
      cells = λ digits are level p on. cell_kept layout s.words words' p (λ there. other_word (place_at layout p) (λ e. slot_apart layout p slot field there (sym e)));
      notes = λ p way. other_word (field_at layout Slots p (note_field way)) (λ e. let low = short in
          let late = note_late way in let soon = note_soon way in absurd (omega (arith, low, late, soon, e)));
      held = λ key found holds. holder key ∙ holds;
      back = λ key found holds. sym (holder key) ∙ holds;
      slots = slots;
    }

    -- what passes stored stays, where the seat's fits
    pub stored_else : (id : ℕ) (w : CellView S A R) → FitsStored layout s.words w.pools → StoredWords pool_side layout words' (set s.views id w)
    stored_else id w fits = stored-set pool_side layout words' s.views id w (on w.pools fits) (λ j u ne there. on u.pools (kept.stored j u there))
      where
        on : (side : PoolSide) → FitsStored layout s.words side → FitsStored layout words' side
        on side h = stored_kept layout s.words words' side side h refl (λ pool place f own. own) (own_else side)

    -- the rule, where the part on turns holds
    pub turn_step : (id : ℕ) (v w : CellView S A R) (homes : Homes S) → get_elem? s.views id ≡ some v → w.seats ≡ v.seats →
        w.epochs ≡ v.epochs → w.pools ≡ v.pools → w.trie ≡ v.trie → SameAhead v.turn w.turn → FitsAlone w →
        Turns turn_side layout (unreclaimed death_side (set s.views id w) k) words' homes (set s.views id w) →
        IsCells m digest layout (record { words = words'; homes = homes; views = set s.views id w })
    turn_step id v w homes at seats epochs pools trie ahead alone turns =
        framed m digest layout s (record { words = words'; homes = homes; views = set s.views id w }) kept kept.published kept.log (length-set s.words word n)
        (subst (λ sides. Seats entry_seat layout.slots all_places kept.log sides) (sym (side_same seat_side s.views id v w at seats)) kept.seats)
        (epochs_apart m digest layout s word n id v w kept at (λ i. record { places = (seats i).readers; side = epochs i }) (λ j h. below j (omega (arith, h))))
        (pools-kept layout (taken pool_side kept.published k s.views) (taken pool_side kept.published k (set s.views id w)) s.words words' kept.pools (length-set s.words word n) below
        (taken-set pool_side kept.published k s.views id v w at (ap (λ (p : PoolSide). p.nodes) pools) (ap (λ (p : PoolSide). p.unfreed) pools)))
        (trie_same trie_side digest layout kept.published k k s.words words' s.views id v w kept.trie at
        (subst (λ side. KnowsNoMore v.trie side) (sym trie) (knows_same v.trie)) (keeps_trie k (λ key. refl) (λ identity c. c) (λ identity e. e)))
        (conns-same pool_side m layout kept.log s.words words' s.views (set s.views id w) kept.connections (length-set s.words word n) (λ p h. inc_else p)
        (builds-kept pool_side k s.views id v w at (ap (λ (p : PoolSide). p.builds) pools) (ap (λ (p : PoolSide). p.unstored) pools) kept.connections.each)
        (unstored-set pool_side s.views id v w at (ap (λ (p : PoolSide). p.unstored) pools)))
        (stored_else id w (subst (FitsStored layout s.words) (sym pools) (kept.stored id v at)))
        (locks-same lock_side layout s.words words' s.views (set s.views id w) kept.locks lock_else (holders-set lock_side layout s.views id v w at (ap (λ t. t.locks) trie)))
        turns
        (deaths_on m digest layout s word n id v w kept at (ap dead_hand pools) (ap (λ (e : EpochSide). e.loaded) epochs)
        (rests_less k v w (subst (λ side. KnowsNoMore v.trie side) (sym trie) (knows_same v.trie)) (ap (λ (e : EpochSide). e.pin) epochs))
        (let same = below 0 (omega arith) in omega (arith, same)) (λ p h. other_word (field_at layout Slots p notes_field) (λ e. absurd (let low = short in omega (arith, e, low)))))
        (known_apart m digest layout s id v w k kept at (same_kills m digest layout v w (ap dead_hand pools)) (ap (λ (x : SeatSide ℕ (Entry S A R)). x.history) seats) (spares_all k))
        (notes_apart m digest layout s words' id v w k kept at ahead (ap dead_hand pools) (ap (λ (p : PoolSide). p.notes) pools)
        (λ conn c. subst (λ (p : PoolSide). Contains p.builds conn) (sym pools) c) (notes_stay k (λ key. refl) (λ p. inl refl)))
        (marks_on m digest layout s kept words' id v w at (words_slot layout kept.published s.words slot field n) (subst (MeetsNoMore v.trie) (sym trie) (meets_same v.trie))
        (ap (λ (p : PoolSide). p.unfreed) pools) (λ _. ap (λ (e : EpochSide). e.loaded) epochs) (ap (λ (e : EpochSide). e.pin) epochs))
        (alone-set s.views id w alone kept.alone)
