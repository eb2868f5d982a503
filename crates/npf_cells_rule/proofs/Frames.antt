-- The rule from its parts: those that a step leaves alone stay.
use Rattle.std.specs.List.{Contains}
use Rattle.std.proofs.Common.{◌≡◌, ◌≢◌, ℕ, ◌+◌, ◌<◌, ◌≤◌, true, List, [], ◌∷◌, ◌++◌, map, length, set, slice_index, refl, sym, ap, ◌∙◌, subst, length-set, ⊎_elim, inl, inr, arith}
use Rattle.std.proofs.lemmas.List.{map-set, set-get_or, get_or-set_other}
use mathlib.Core.Option.{some}
use lib.ListN.{get_elem?}
use Rattle.atomic_table.{specs.Table.{State, stepped, keeps}, proofs.Lists.{at_map, at_set, at_snoc}}
use Rattle.npf_types.specs.declared.key.Key.{Key}
use Rattle.npf_core.specs.{declared.{conn_id.ConnId.ConnId, entry.Entry.Entry}, History.{MayFollow, after, state_of}, Machine.Machine, Meaning.Meaning}
use Rattle.npf_core.proofs.HistoryLemmas.{state_of-append, Legal-append}
use Rattle.npf_connections.specs.Pass.{all_places}
use Rattle.npf_cells_words.specs.declared.layout.{Layout.Layout, Pool.{Pool, TheVariants.Slots}}
use Rattle.npf_cells_words.specs.Layout.{pools_at, root_at, turn_field, phase_field, inc_field, notes_field, field_at, epoch_word, reader_word}
use Rattle.npf_cells_words.{specs.Places.lock_at, proofs.WordLemmas.{lock_behind, field_behind}}
use Rattle.npf_seats.{specs.{declared.side.SeatSide.SeatSide, Seats.Seats, Sums.occurs}, proofs.SeatLemmas.{owned_within, seats-adds, seats-sees}}
use Rattle.npf_seats.proofs.SumLemmas.{from_map, side_same}
use Rattle.npf_cells_pins.{specs.Epochs.{ReaderView, Epochs}, proofs.EpochLemmas.epochs-words}
use Rattle.npf_cells_leaves.{specs.Trie.{HasNoWalk, Trie, trie_words}, proofs.TrieLemmas.{KnowsNoMore, keeps_words, trie_same}}
use Rattle.npf_cells_lives.specs.{declared.pools.PoolSide.PoolSide, Conns.{inc_word, unstored_by, Conns, entry_seat}, Deaths.{is_dead, unreclaimed, Deaths}}
use Rattle.npf_cells_lives.specs.{Known.{FitsKnown, Known}, Locks.Locks, Notes.Notes, Pools.{taken, Pools}, Stored.{FitsStored, StoredWords}}
use Rattle.npf_cells_lives.proofs.{ConnLemmas.{BuildsIn, builds-kept, unstored-set, conns-same}, DeathLemmas.{Spares, spares_all, RestsNoMore}}
use Rattle.npf_cells_lives.proofs.{FreedLemmas.freed_stays, KnownLemmas.known-spared, LockLemmas.{locks-same, holders-set}}
use Rattle.npf_cells_lives.proofs.{PoolLemmas.{pools-same, pools-kept, taken-set}, StoredLemmas.{stored-set, stored-words}}
use Rattle.npf_cells_lives.proofs.{NoteLemmas.{SameAhead, same_ahead, NotesStay, notes-set}, TurnLemmas.turns-kept}
use Rattle.npf_cells_marks.specs.Marks.{Marks}
use Rattle.npf_cells_rule.proofs.{MarkFrames.{marks_on, meets_less, words_behind, words_loaded}, NoteFrames.notes_behind}
use Rattle.npf_cells_rule.specs.{declared.view.CellView.CellView, Cells.{FitsAlone, AllFitAlone, IsCells}, Passes.IsProtected}
use Rattle.npf_cells_rule.specs.Views.{seat_side, reader_view, lock_side, pool_side, trie_side, turn_side, DeadHand, dead_hand, death_side, seen_side, mark_side}
use Rattle.npf_cells_rule.proofs.DeathFrames.{rests_less, deaths_spared, deaths_apart, deaths_load, gone_same, known_apart, known_seen}
use Rattle.npf_cells_lives.specs.Turns.{IsTurnField, Running, StaysAt, Turns}

-- the word is one of the pools': those before them and those behind them stay
pub record IsPoolStep (layout : Layout) (words : List ℕ) (i n : ℕ) : Type 0 where
  pub before : (j : ℕ) → j < pools_at → slice_index (set words i n) j ≡ slice_index words j
  pub behind : (j : ℕ) → root_at layout ≤ j → slice_index (set words i n) j ≡ slice_index words j

module _ {S A R : Type 0} where
  -- each pass fits by itself, where one changes or a new one comes
  pub alone-set : (views : List (CellView S A R)) (i : ℕ) (w : CellView S A R) → FitsAlone w → AllFitAlone views → AllFitAlone (set views i w)
  alone-set views i w mine kept j u e = ⊎_elim
      (λ (x : (j ≡ i) × (w ≡ u)). subst FitsAlone x.1 mine)
      (λ (x : (j ≢ i) × (get_elem? views j ≡ some u)). kept j u x.1)
      (at_set views i j w u e)

  pub alone-push : (views : List (CellView S A R)) (w : CellView S A R) → FitsAlone w → AllFitAlone views → AllFitAlone (views ++ w ∷ [])
  alone-push views w mine kept j u e = ⊎_elim
      (λ (there : get_elem? views j ≡ some u). kept j u there)
      (λ (x : w ≡ u). subst FitsAlone x mine)
      (at_snoc views w u j e)

  -- so does one that owns a reader place and is protected, or whose pin stays and which walked nowhere where it had walked nowhere
  pub alone_within : (w : CellView S A R) → 1 ≤ length w.seats.readers → IsProtected w.epochs.pin → FitsAlone w
  alone_within w place stays = record { out = λ no. absurd (no stays); spent = λ none. absurd (omega (arith, none, place)) }

  pub alone_still : (v w : CellView S A R) → FitsAlone v → 1 ≤ length w.seats.readers → w.epochs.pin ≡ v.epochs.pin → (HasNoWalk v.trie → HasNoWalk w.trie) → FitsAlone w
  alone_still v w fits place same less = record {
    out = λ no. less (fits.out (λ stays. no (subst IsProtected (sym same) stays)));
    spent = λ none. absurd (omega (arith, none, place));
  }

module _ {S A R : Type 0} (m : Meaning S A R) (digest : Key → ℕ) (layout : Layout) where
  -- a state of as many words, with each part
  pub framed : (s s' : State (Running S) (CellView S A R)) (kept : IsCells m digest layout s) (published : List ℕ) (log : List (Entry S A R)) → length s'.words ≡ length s.words →
      Seats entry_seat layout.slots all_places log (map seat_side s'.views) → Epochs (epoch_word s'.words) (reader_word s'.words) (map reader_view s'.views) →
      Pools layout (taken pool_side published (state_of m log) s'.views) s'.words → Trie trie_side digest layout published (state_of m log) s'.words s'.views →
      Conns pool_side m layout log s'.words s'.views → StoredWords pool_side layout s'.words s'.views → Locks lock_side layout s'.words s'.views →
      Turns turn_side layout (unreclaimed death_side s'.views (state_of m log)) s'.words s'.homes s'.views → Deaths death_side layout (state_of m log) s'.words s'.views →
      Known (seen_side m) pool_side (state_of m log) s'.views → Notes turn_side pool_side layout (trie_words layout s'.words).cell (state_of m log) s'.words s'.views →
      Marks mark_side layout published s'.words s'.views → AllFitAlone s'.views → IsCells m digest layout s'
  framed s s' kept published log count seats epochs pools trie connections stored locks turns deaths known notes marks alone = record {
    log = log;
    published = published;
    seats = seats;
    epochs = epochs;
    pools = pools;
    trie = trie;
    connections = connections;
    stored = stored;
    locks = locks;
    turns = turns;
    deaths = deaths;
    known = known;
    notes = notes;
    marks = marks;
    alone = alone;
  }

  -- the part on connections stays where the words behind the pools' do, and what the seat builds and still has to store
  pub conns_apart : (s : State (Running S) (CellView S A R)) (i n id : ℕ) (v w : CellView S A R) (kept : IsCells m digest layout s) →
      get_elem? s.views id ≡ some v → w.pools.builds ≡ v.pools.builds → w.pools.unstored ≡ v.pools.unstored →
      ((j : ℕ) → root_at layout ≤ j → slice_index (set s.words i n) j ≡ slice_index s.words j) → Conns pool_side m layout kept.log (set s.words i n) (set s.views id w)
  conns_apart s i n id v w kept at builds unstored words =
      conns-same pool_side m layout kept.log s.words (set s.words i n) s.views (set s.views id w) kept.connections
      (length-set s.words i n) (λ slot h. words (field_at layout Slots slot inc_field) (omega arith))
      (builds-kept pool_side (state_of m kept.log) s.views id v w at builds unstored kept.connections.each) (unstored-set pool_side s.views id v w at unstored)

  -- the part on the trie stays where the words behind the pools' do
  pub trie_apart : (s : State (Running S) (CellView S A R)) (i n id : ℕ) (v w : CellView S A R) (kept : IsCells m digest layout s) → get_elem? s.views id ≡ some v → KnowsNoMore v.trie w.trie →
      ((j : ℕ) → root_at layout ≤ j → slice_index (set s.words i n) j ≡ slice_index s.words j) → Trie trie_side digest layout kept.published (state_of m kept.log) (set s.words i n) (set s.views id w)
  trie_apart s i n id v w kept at less words =
      trie_same trie_side digest layout kept.published (state_of m kept.log) (state_of m kept.log) s.words (set s.words i n) s.views id v w kept.trie at less
      (keeps_words layout (state_of m kept.log) (state_of m kept.log) s.words (set s.words i n) (λ key. refl) (λ identity c. c) (λ identity e. e) words)

  -- so do what passes stored and the locks, where the seat fits
  pub stored_apart : (s : State (Running S) (CellView S A R)) (i n id : ℕ) (w : CellView S A R) → IsCells m digest layout s → FitsStored layout s.words w.pools →
      ((j : ℕ) → root_at layout ≤ j → slice_index (set s.words i n) j ≡ slice_index s.words j) → StoredWords pool_side layout (set s.words i n) (set s.views id w)
  stored_apart s i n id w kept fits words = stored-set pool_side layout (set s.words i n) s.views id w (on w.pools fits) (λ j u ne there. on u.pools (kept.stored j u there))
    where
      field_same : (pool : Pool) (place field : ℕ) → slice_index (set s.words i n) (field_at layout pool place field) ≡ slice_index s.words (field_at layout pool place field)
      field_same pool place field = words (field_at layout pool place field) (field_behind layout pool place field)

      on : (side : PoolSide) → FitsStored layout s.words side → FitsStored layout (set s.words i n) side
      on side h = stored-words layout s.words (set s.words i n) side h field_same

  pub locks_apart : (s : State (Running S) (CellView S A R)) (i n id : ℕ) (v w : CellView S A R) → IsCells m digest layout s → get_elem? s.views id ≡ some v → w.trie.locks ≡ v.trie.locks →
      ((j : ℕ) → root_at layout ≤ j → slice_index (set s.words i n) j ≡ slice_index s.words j) → Locks lock_side layout (set s.words i n) (set s.views id w)
  locks_apart s i n id v w kept at same words =
      locks-same lock_side layout s.words (set s.words i n) s.views (set s.views id w) kept.locks
      (λ lock h. words (lock_at layout lock) (lock_behind layout lock)) (holders-set lock_side layout s.views id v w at same)

  -- so does the part on turns where the words of turns and of phases do, and each slot is still at what it was
  pub turns_apart : (s : State (Running S) (CellView S A R)) (i n id : ℕ) (v w : CellView S A R) (k' : Machine S) (kept : IsCells m digest layout s) →
      get_elem? s.views id ≡ some v → w.turn ≡ v.turn → dead_hand w.pools ≡ dead_hand v.pools →
      ((slot field : ℕ) → slot < layout.slots → IsTurnField field → slice_index (set s.words i n) (field_at layout Slots slot field) ≡ slice_index s.words (field_at layout Slots slot field)) →
      ((slot : ℕ) → StaysAt ((state_of m kept.log).slot slot) (k'.slot slot)) → Turns turn_side layout (unreclaimed death_side (set s.views id w) k') (set s.words i n) s.homes (set s.views id w)
  turns_apart s i n id v w k' kept at same hand words slots =
      turns-kept turn_side layout (unreclaimed death_side s.views (state_of m kept.log))
      (unreclaimed death_side (set s.views id w) k') s.words (set s.words i n) s.homes s.views id v w kept.turns at same
      (record {
        turn = λ slot h. words slot turn_field h (inl refl);
        phase = λ slot h. words slot phase_field h (inr refl);
        slots = λ slot. freed_stays death_side s.views (set s.views id w) (state_of m kept.log) k' slot (gone_same m digest layout s.views id v w at hand slot) (slots slot);
      })

  -- which is so where the words behind the pools' stay
  pub turns_behind : (s : State (Running S) (CellView S A R)) (i n id : ℕ) (v w : CellView S A R) (kept : IsCells m digest layout s) →
      get_elem? s.views id ≡ some v → w.turn ≡ v.turn → dead_hand w.pools ≡ dead_hand v.pools →
      ((j : ℕ) → root_at layout ≤ j → slice_index (set s.words i n) j ≡ slice_index s.words j) →
      Turns turn_side layout (unreclaimed death_side (set s.views id w) (state_of m kept.log)) (set s.words i n) s.homes (set s.views id w)
  turns_behind s i n id v w kept at same hand words =
      turns_apart s i n id v w (state_of m kept.log) kept at same hand (λ slot field h f. words (field_at layout Slots slot field) (field_behind layout Slots slot field)) (λ slot. inl refl)

  -- the part on notes stays where one view is ahead of the same, stored the same notes, and builds what it built
  pub notes_apart : (s : State (Running S) (CellView S A R)) (words' : List ℕ) (id : ℕ) (v w : CellView S A R) (k' : Machine S) (kept : IsCells m digest layout s) →
      get_elem? s.views id ≡ some v → SameAhead v.turn w.turn → dead_hand w.pools ≡ dead_hand v.pools → w.pools.notes ≡ v.pools.notes →
      ((conn : ConnId) → Contains v.pools.builds conn → Contains w.pools.builds conn) →
      NotesStay layout (state_of m kept.log) k' (trie_words layout s.words).cell (trie_words layout words').cell s.words words' →
      Notes turn_side pool_side layout (trie_words layout words').cell k' words' (set s.views id w)
  notes_apart s words' id v w k' kept at same hand notes builds stay =
      notes-set turn_side pool_side layout (state_of m kept.log) k' (trie_words layout s.words).cell (trie_words layout words').cell s.words words' s.views id v w kept.notes at same
      (ap (λ (h : DeadHand). h.kills) hand) (ap (λ (h : DeadHand). h.gave_up) hand) notes builds stay

  pub notes_still : (s : State (Running S) (CellView S A R)) (i n id : ℕ) (v w : CellView S A R) (kept : IsCells m digest layout s) → get_elem? s.views id ≡ some v →
      w.turn ≡ v.turn → dead_hand w.pools ≡ dead_hand v.pools → w.pools.notes ≡ v.pools.notes → w.pools.builds ≡ v.pools.builds →
      ((j : ℕ) → root_at layout ≤ j → slice_index (set s.words i n) j ≡ slice_index s.words j) →
      Notes turn_side pool_side layout (trie_words layout (set s.words i n)).cell (state_of m kept.log) (set s.words i n) (set s.views id w)
  notes_still s i n id v w kept at turn hand notes builds words =
      notes_apart s (set s.words i n) id v w (state_of m kept.log) kept at (same_ahead v.turn w.turn turn) hand notes (λ conn c. subst (λ ids. Contains ids conn) (sym builds) c)
      (notes_behind layout (state_of m kept.log) (state_of m kept.log) s.words (set s.words i n) words (λ key. refl) (λ slot. inl refl))

  -- which connections a seat killed is the same
  pub same_kills : (v w : CellView S A R) → dead_hand w.pools ≡ dead_hand v.pools → (conn : ConnId) → Contains w.pools.kills conn → Contains v.pools.kills conn
  same_kills v w hand conn c = subst (λ (h : DeadHand). Contains h.kills conn) hand c

  -- a step on a word of the part on epochs, that changes this side of one view alone
  pub epochs_step : (s : State (Running S) (CellView S A R)) (i n id : ℕ) (c : List (ℕ × Running S)) (v w : CellView S A R) (kept : IsCells m digest layout s) →
      get_elem? s.views id ≡ some v → w.seats ≡ v.seats → w.pools ≡ v.pools → KnowsNoMore v.trie w.trie → w.turn ≡ v.turn → FitsAlone w →
      ((j : ℕ) → pools_at ≤ j → slice_index (set s.words i n) j ≡ slice_index s.words j) →
      Epochs (epoch_word (set s.words i n)) (reader_word (set s.words i n)) (set (map reader_view s.views) id (reader_view w)) →
      Deaths death_side layout (state_of m kept.log) (set s.words i n) (set s.views id w) →
      Marks mark_side layout kept.published (set s.words i n) (set s.views id w) → IsCells m digest layout (stepped s i n id c w keeps)
  epochs_step s i n id c v w kept at same pools trie turn alone words epochs deaths marks = framed s (stepped s i n id c w keeps) kept kept.published kept.log (length-set s.words i n)
      (subst (λ sides. Seats entry_seat layout.slots all_places kept.log sides) (sym (side_same seat_side s.views id v w at same)) kept.seats)
      (subst (λ rs. Epochs (epoch_word (set s.words i n)) (reader_word (set s.words i n)) rs) (sym (map-set reader_view s.views id w)) epochs)
      (pools-same layout (taken pool_side kept.published (state_of m kept.log) s.views)
      (taken pool_side kept.published (state_of m kept.log) (set s.views id w)) s.words (set s.words i n) kept.pools (length-set s.words i n) words
      (taken-set pool_side kept.published (state_of m kept.log) s.views id v w at (ap (λ p. p.nodes) pools) (ap (λ p. p.unfreed) pools)))
      (trie_apart s i n id v w kept at trie (λ j h. words j (omega (arith, h))))
      (conns_apart s i n id v w kept at (ap (λ p. p.builds) pools) (ap (λ p. p.unstored) pools) (λ j h. words j (omega (arith, h))))
      (stored_apart s i n id w kept (subst (FitsStored layout s.words) (sym pools) (kept.stored id v at)) (λ j h. words j (omega (arith, h))))
      (locks_apart s i n id v w kept at trie.locks (λ j h. words j (omega (arith, h))))
      (turns_behind s i n id v w kept at turn (ap dead_hand pools) (λ j h. words j (omega (arith, h))))
      deaths
      (known_apart m digest layout s id v w (state_of m kept.log) kept at (same_kills v w (ap dead_hand pools))
      (ap (λ (x : SeatSide ℕ (Entry S A R)). x.history) same) (spares_all (state_of m kept.log)))
      (notes_still s i n id v w kept at turn (ap dead_hand pools) (ap (λ p. p.notes) pools) (ap (λ p. p.builds) pools) (λ j h. words j (omega (arith, h))))
      marks
      (alone-set s.views id w alone kept.alone)

  -- a load that changes the seats' side of one view alone
  pub seats_step : (s : State (Running S) (CellView S A R)) (i id : ℕ) (c : List (ℕ × Running S)) (v w : CellView S A R) (kept : IsCells m digest layout s) → get_elem? s.views id ≡ some v →
      reader_view w ≡ reader_view v → w.pools ≡ v.pools → KnowsNoMore v.trie w.trie → w.turn ≡ v.turn → FitsAlone w →
      ((conn : ConnId) → Contains w.pools.kills conn → FitsKnown (seen_side m w) (state_of m kept.log) conn) →
      Seats entry_seat layout.slots all_places kept.log (set (map seat_side s.views) id w.seats) → IsCells m digest layout (stepped s i (slice_index s.words i) id c w keeps)
  seats_step s i id c v w kept at same pools trie turn alone known seats =
      framed s (stepped s i (slice_index s.words i) id c w keeps) kept kept.published kept.log (length-set s.words i (slice_index s.words i))
      (subst (λ sides. Seats entry_seat layout.slots all_places kept.log sides) (sym (map-set seat_side s.views id w)) seats)
      (subst (λ (ws : List ℕ). Epochs (epoch_word ws) (reader_word ws) (map reader_view (set s.views id w))) (sym (set-get_or s.words i 0))
      (subst (λ rs. Epochs (epoch_word s.words) (reader_word s.words) rs) (sym (side_same reader_view s.views id v w at same)) kept.epochs))
      (pools-same layout (taken pool_side kept.published (state_of m kept.log) s.views) (taken pool_side kept.published (state_of m kept.log) (set s.views id w)) s.words
      (set s.words i (slice_index s.words i)) kept.pools (length-set s.words i (slice_index s.words i))
      (λ j h. ap (λ ws. slice_index ws j) (set-get_or s.words i 0)) (taken-set pool_side kept.published (state_of m kept.log) s.views id v w at (ap (λ p. p.nodes) pools) (ap (λ p. p.unfreed) pools)))
      (trie_apart s i (slice_index s.words i) id v w kept at trie (λ j h. ap (λ ws. slice_index ws j) (set-get_or s.words i 0)))
      (conns_apart s i (slice_index s.words i) id v w kept at (ap (λ p. p.builds) pools) (ap (λ p. p.unstored) pools) (λ j h. ap (λ ws. slice_index ws j) (set-get_or s.words i 0)))
      (stored_apart s i (slice_index s.words i) id w kept (subst (FitsStored layout s.words) (sym pools) (kept.stored id v at)) (λ j h. ap (λ ws. slice_index ws j) (set-get_or s.words i 0)))
      (locks_apart s i (slice_index s.words i) id v w kept at trie.locks (λ j h. ap (λ ws. slice_index ws j) (set-get_or s.words i 0)))
      (turns_behind s i (slice_index s.words i) id v w kept at turn (ap dead_hand pools) (λ j h. ap (λ ws. slice_index ws j) (set-get_or s.words i 0)))
      (deaths_load m digest layout s i id v w kept at (ap dead_hand pools) (ap (λ (r : ReaderView). r.side.loaded) same)
      (rests_less (state_of m kept.log) v w trie (ap (λ (r : ReaderView). r.side.pin) same)))
      (known-spared (seen_side m) pool_side (state_of m kept.log) (state_of m kept.log) s.views id w kept.known
      (spares_all (state_of m kept.log)) (λ j u conn e c. (kept.deaths.kills j u conn e c).dead) known)
      (notes_still s i (slice_index s.words i) id v w kept at turn (ap dead_hand pools) (ap (λ p. p.notes) pools)
      (ap (λ p. p.builds) pools) (λ j h. ap (λ ws. slice_index ws j) (set-get_or s.words i 0)))
      (marks_on m digest layout s kept (set s.words i (slice_index s.words i)) id v w at (words_loaded layout kept.published s.words i)
      (meets_less v.trie w.trie trie) (ap (λ p. p.unfreed) pools) (λ _. ap (λ (r : ReaderView). r.side.loaded) same) (ap (λ (r : ReaderView). r.side.pin) same))
      (alone-set s.views id w alone kept.alone)

  -- the part on epochs stays where the words before the pools' do, and what the seat knows of it
  pub epochs_apart : (s : State (Running S) (CellView S A R)) (i n id : ℕ) (v w : CellView S A R) → IsCells m digest layout s → get_elem? s.views id ≡ some v → reader_view w ≡ reader_view v →
      ((j : ℕ) → j < pools_at → slice_index (set s.words i n) j ≡ slice_index s.words j) →
      Epochs (epoch_word (set s.words i n)) (reader_word (set s.words i n)) (map reader_view (set s.views id w))
  epochs_apart s i n id v w kept at reads words =
      subst (λ rs. Epochs (epoch_word (set s.words i n)) (reader_word (set s.words i n)) rs) (sym (side_same reader_view s.views id v w at reads))
      (subst (λ now. Epochs now (reader_word (set s.words i n)) (map reader_view s.views)) (sym (words 0 (omega arith)))
      (epochs-words (epoch_word s.words) (reader_word s.words) (reader_word (set s.words i n)) (map reader_view s.views) kept.epochs owned))
    where
      owned : (j place : ℕ) (q : ReaderView) → get_elem? (map reader_view s.views) j ≡ some q → 1 ≤ occurs place q.places → reader_word (set s.words i n) place ≡ reader_word s.words place
      owned j place q e owns =
          let x = from_map reader_view s.views j q e in
          let same' : occurs place x.0.seats.readers ≡ occurs place q.places = ap (λ (u : ReaderView). occurs place u.places) x.2 in
          let below = owned_within entry_seat layout.slots all_places kept.log (map seat_side s.views) j place x.0.seats kept.seats (at_map seat_side s.views j x.0 x.1) (omega (arith, same', owns)) in
          words (1 + place) (omega (arith, below))

  -- the part on deaths stays through a step on a word of the pools
  deaths_pool : (s : State (Running S) (CellView S A R)) (i n id : ℕ) (v w : CellView S A R) (kept : IsCells m digest layout s) →
      get_elem? s.views id ≡ some v → dead_hand w.pools ≡ dead_hand v.pools → reader_view w ≡ reader_view v →
      RestsNoMore (state_of m kept.log) (death_side v) (death_side w) → IsPoolStep layout s.words i n → Deaths death_side layout (state_of m kept.log) (set s.words i n) (set s.views id w)
  deaths_pool s i n id v w kept at kills reads less words =
      deaths_apart m digest layout s i n id v w kept at kills (ap (λ (r : ReaderView). r.side.loaded) reads) less (let same = words.before 0 (omega arith) in omega (arith, same)) words.behind

  -- and so does that on marks
  marks_pool : (s : State (Running S) (CellView S A R)) (i n id : ℕ) (v w : CellView S A R) (kept : IsCells m digest layout s) → get_elem? s.views id ≡ some v →
      KnowsNoMore v.trie w.trie → dead_hand w.pools ≡ dead_hand v.pools → reader_view w ≡ reader_view v → IsPoolStep layout s.words i n →
      Marks mark_side layout kept.published (set s.words i n) (set s.views id w)
  marks_pool s i n id v w kept at trie kills reads words =
      marks_on m digest layout s kept (set s.words i n) id v w at (words_behind layout kept.published s.words (set s.words i n) (let same =
      words.before 0 (omega arith) in omega (arith, same)) words.behind) (meets_less v.trie w.trie trie)
      (ap (λ (h : DeadHand). h.unfreed) kills) (λ _. ap (λ (r : ReaderView). r.side.loaded) reads) (ap (λ (r : ReaderView). r.side.pin) reads)

  -- a step on a word of the part on pools, that changes this side of one view alone
  pub pools_step : (s : State (Running S) (CellView S A R)) (i n id : ℕ) (c : List (ℕ × Running S)) (v w : CellView S A R) (kept : IsCells m digest layout s) →
      get_elem? s.views id ≡ some v → w.seats ≡ v.seats → reader_view w ≡ reader_view v → KnowsNoMore v.trie w.trie → FitsStored layout s.words w.pools →
      w.pools.builds ≡ v.pools.builds → w.pools.unstored ≡ v.pools.unstored → dead_hand w.pools ≡ dead_hand v.pools →
      w.pools.notes ≡ v.pools.notes → w.turn ≡ v.turn → FitsAlone w → IsPoolStep layout s.words i n →
      Pools layout (taken pool_side kept.published (state_of m kept.log) (set s.views id w)) (set s.words i n) → IsCells m digest layout (stepped s i n id c w keeps)
  pools_step s i n id c v w kept at same reads trie stored builds unstored kills notes turn alone words pools =
      framed s (stepped s i n id c w keeps) kept kept.published kept.log (length-set s.words i n)
      (subst (λ sides. Seats entry_seat layout.slots all_places kept.log sides) (sym (side_same seat_side s.views id v w at same)) kept.seats)
      (epochs_apart s i n id v w kept at reads words.before)
      pools
      (trie_apart s i n id v w kept at trie words.behind)
      (conns_apart s i n id v w kept at builds unstored words.behind)
      (stored_apart s i n id w kept stored words.behind)
      (locks_apart s i n id v w kept at trie.locks words.behind)
      (turns_behind s i n id v w kept at turn kills words.behind)
      (deaths_pool s i n id v w kept at kills reads (rests_less (state_of m kept.log) v w trie (ap (λ (r : ReaderView). r.side.pin) reads)) words)
      (known_apart m digest layout s id v w (state_of m kept.log) kept at (same_kills v w kills) (ap (λ (x : SeatSide ℕ (Entry S A R)). x.history) same) (spares_all (state_of m kept.log)))
      (notes_still s i n id v w kept at turn kills notes builds words.behind)
      (marks_pool s i n id v w kept at trie kills reads words)
      (alone-set s.views id w alone kept.alone)

  -- the same, where the pass also sees all of the history
  pub sight_step : (s : State (Running S) (CellView S A R)) (i n id : ℕ) (c : List (ℕ × Running S)) (v w : CellView S A R) (kept : IsCells m digest layout s) →
      get_elem? s.views id ≡ some v → v.seats.lives ≡ true → w.seats ≡ record v.seats { history = kept.log } → reader_view w ≡ reader_view v →
      KnowsNoMore v.trie w.trie → FitsStored layout s.words w.pools → w.pools.builds ≡ v.pools.builds → w.pools.unstored ≡ v.pools.unstored →
      dead_hand w.pools ≡ dead_hand v.pools → w.pools.notes ≡ v.pools.notes → w.turn ≡ v.turn → FitsAlone w → IsPoolStep layout s.words i n →
      Pools layout (taken pool_side kept.published (state_of m kept.log) (set s.views id w)) (set s.words i n) → IsCells m digest layout (stepped s i n id c w keeps)
  sight_step s i n id c v w kept at lives seats reads trie stored builds unstored kills notes turn alone words pools =
      framed s (stepped s i n id c w keeps) kept kept.published kept.log (length-set s.words i n)
      (subst (λ sides. Seats entry_seat layout.slots all_places kept.log sides) (sym (map-set seat_side s.views id w ∙ ap (λ side. set (map seat_side s.views) id side) seats))
      (seats-sees entry_seat layout.slots all_places kept.log (map seat_side s.views) id v.seats kept.seats (at_map seat_side s.views id v at) lives))
      (epochs_apart s i n id v w kept at reads words.before)
      pools
      (trie_apart s i n id v w kept at trie words.behind)
      (conns_apart s i n id v w kept at builds unstored words.behind)
      (stored_apart s i n id w kept stored words.behind)
      (locks_apart s i n id v w kept at trie.locks words.behind)
      (turns_behind s i n id v w kept at turn kills words.behind)
      (deaths_pool s i n id v w kept at kills reads (rests_less (state_of m kept.log) v w trie (ap (λ (r : ReaderView). r.side.pin) reads)) words)
      (known_seen m digest layout s id v w (state_of m kept.log) kept at (same_kills v w kills) (ap (λ (x : SeatSide ℕ (Entry S A R)). state_of m x.history) seats) (spares_all (state_of m kept.log)))
      (notes_still s i n id v w kept at turn kills notes builds words.behind)
      (marks_pool s i n id v w kept at trie kills reads words)
      (alone-set s.views id w alone kept.alone)

  -- the same, where the pass also adds an entry of its own to the history
  pub entry_step : (s : State (Running S) (CellView S A R)) (i n id : ℕ) (c : List (ℕ × Running S)) (v w : CellView S A R) (kept : IsCells m digest layout s) →
      get_elem? s.views id ≡ some v → v.seats.lives ≡ true → 1 ≤ length v.seats.readers →
      (entry : Entry S A R) → entry.seat ≡ id → MayFollow m layout.slots (state_of m kept.log) entry → w.seats ≡ record v.seats { history = kept.log ++ entry ∷ [] } →
      reader_view w ≡ reader_view v → FitsStored layout s.words w.pools → w.trie.locks ≡ v.trie.locks → w.turn ≡ v.turn →
      ((slot : ℕ) → StaysAt ((state_of m kept.log).slot slot) ((after m (state_of m kept.log) entry).slot slot)) →
      ((key : Key) → (after m (state_of m kept.log) entry).holder key ≡ (state_of m kept.log).holder key) →
      dead_hand w.pools ≡ dead_hand v.pools → Spares (state_of m kept.log) (after m (state_of m kept.log) entry) →
      ((slot : ℕ) → is_dead ((after m (state_of m kept.log) entry).slot slot).stage ≡ is_dead ((state_of m kept.log).slot slot).stage) →
      RestsNoMore (state_of m kept.log) (death_side v) (death_side w) →
      w.pools.notes ≡ v.pools.notes → ((conn : ConnId) → Contains v.pools.builds conn → Contains w.pools.builds conn) → FitsAlone w →
      IsPoolStep layout s.words i n → Pools layout (taken pool_side kept.published (after m (state_of m kept.log) entry) (set s.views id w)) (set s.words i n) →
      Trie trie_side digest layout kept.published (after m (state_of m kept.log) entry) (set s.words i n) (set s.views id w) →
      BuildsIn pool_side (after m (state_of m kept.log) entry) (set s.views id w) →
      ((slot : ℕ) → slot < layout.slots → inc_word layout s.words slot + unstored_by pool_side (set s.views id w) slot ≡ ((after m (state_of m kept.log) entry).slot slot).inc) →
      Marks mark_side layout kept.published (set s.words i n) (set s.views id w) → IsCells m digest layout (stepped s i n id c w keeps)
  entry_step s i n id c v w kept at lives place entry mine follows seats reads stored locks turn slots holders kills spares dead less notes more alone words pools trie builds incs marks =
      let log = kept.log ++ entry ∷ [] in
      let state = state_of-append m kept.log entry in
      framed s (stepped s i n id c w keeps) kept kept.published log (length-set s.words i n)
      (subst (λ sides. Seats entry_seat layout.slots all_places log sides) (sym (map-set seat_side s.views id w ∙ ap (λ side. set (map seat_side s.views) id side) seats))
      (seats-adds entry_seat layout.slots all_places kept.log (map seat_side s.views) id v.seats kept.seats (at_map seat_side s.views id v at) lives place entry mine))
      (epochs_apart s i n id v w kept at reads words.before)
      (subst (λ k. Pools layout (taken pool_side kept.published k (set s.views id w)) (set s.words i n)) (sym state) pools)
      (subst (λ k. Trie trie_side digest layout kept.published k (set s.words i n) (set s.views id w)) (sym state) trie)
      (record {
        reach = length-set s.words i n ∙ kept.connections.reach;
        legal = Legal-append m layout.slots kept.log entry kept.connections.legal follows;
        each = subst (λ k. BuildsIn pool_side k (set s.views id w)) (sym state) builds;
        incs = λ slot h. ap (λ x. x + unstored_by pool_side (set s.views id w) slot) (words.behind (field_at layout Slots slot inc_field) (omega arith))
            ∙ (incs slot h ∙ ap (λ k. (k.slot slot).inc) (sym state));
      })
      (stored_apart s i n id w kept stored words.behind)
      (locks_apart s i n id v w kept at locks words.behind)
      (subst (λ k. Turns turn_side layout (unreclaimed death_side (set s.views id w) k) (set s.words i n) s.homes (set s.views id w)) (sym state)
      (turns_apart s i n id v w (after m (state_of m kept.log) entry) kept at turn kills
      (λ slot field h f. words.behind (field_at layout Slots slot field) (field_behind layout Slots slot field)) slots))
      (subst (λ k. Deaths death_side layout k (set s.words i n) (set s.views id w)) (sym state)
      (deaths_spared m digest layout s i n id v w (after m (state_of m kept.log) entry) kept at kills
      (ap (λ (r : ReaderView). r.side.loaded) reads) spares dead less (let same = words.before 0 (omega arith) in omega (arith, same))
      (λ slot h. words.behind (field_at layout Slots slot notes_field) (field_behind layout Slots slot notes_field))))
      (subst (λ k. Known (seen_side m) pool_side k (set s.views id w)) (sym state)
      (known_seen m digest layout s id v w (after m (state_of m kept.log) entry) kept at (same_kills v w kills) (ap (λ (x : SeatSide ℕ (Entry S A R)). state_of m x.history) seats ∙ state) spares))
      (subst (λ k. Notes turn_side pool_side layout (trie_words layout (set s.words i n)).cell k (set s.words i n) (set s.views id w)) (sym state)
      (notes_apart s (set s.words i n) id v w (after m (state_of m kept.log) entry) kept at (same_ahead v.turn w.turn turn) kills notes more
      (notes_behind layout (state_of m kept.log) (after m (state_of m kept.log) entry) s.words (set s.words i n) words.behind holders slots)))
      marks
      (alone-set s.views id w alone kept.alone)

  -- a step on a word behind the pools', that changes of one view what the pass still has to store alone
  pub private_step : (s : State (Running S) (CellView S A R)) (i n id : ℕ) (c : List (ℕ × Running S)) (v w : CellView S A R) (kept : IsCells m digest layout s) →
      get_elem? s.views id ≡ some v → root_at layout ≤ i → w.seats ≡ v.seats → reader_view w ≡ reader_view v →
      w.pools.nodes ≡ v.pools.nodes → w.pools.unfreed ≡ v.pools.unfreed → w.pools.builds ≡ v.pools.builds → ((conn : ConnId) → Contains w.pools.kills conn → Contains v.pools.kills conn) →
      FitsAlone w → Trie trie_side digest layout kept.published (state_of m kept.log) (set s.words i n) (set s.views id w) →
      Conns pool_side m layout kept.log (set s.words i n) (set s.views id w) → StoredWords pool_side layout (set s.words i n) (set s.views id w) →
      Locks lock_side layout (set s.words i n) (set s.views id w) → Turns turn_side layout (unreclaimed death_side (set s.views id w) (state_of m kept.log))
      (set s.words i n) s.homes (set s.views id w) → Deaths death_side layout (state_of m kept.log) (set s.words i n) (set s.views id w) →
      Notes turn_side pool_side layout (trie_words layout (set s.words i n)).cell (state_of m kept.log) (set s.words i n) (set s.views id w) →
      Marks mark_side layout kept.published (set s.words i n) (set s.views id w) → IsCells m digest layout (stepped s i n id c w keeps)
  private_step s i n id c v w kept at behind same reads nodes back builds kills alone trie connections stored locks turns deaths notes marks =
      framed s (stepped s i n id c w keeps) kept kept.published kept.log (length-set s.words i n)
      (subst (λ sides. Seats entry_seat layout.slots all_places kept.log sides) (sym (side_same seat_side s.views id v w at same)) kept.seats)
      (epochs_apart s i n id v w kept at reads (λ j h. below j (omega (arith, h))))
      (pools-kept layout (taken pool_side kept.published (state_of m kept.log) s.views) (taken pool_side kept.published (state_of m kept.log) (set s.views id w)) s.words
      (set s.words i n) kept.pools (length-set s.words i n) below (taken-set pool_side kept.published (state_of m kept.log) s.views id v w at nodes back))
      trie
      connections
      stored
      locks
      turns
      deaths
      (known_apart m digest layout s id v w (state_of m kept.log) kept at kills (ap (λ (x : SeatSide ℕ (Entry S A R)). x.history) same) (spares_all (state_of m kept.log)))
      notes
      marks
      (alone-set s.views id w alone kept.alone)
    where
      below : (j : ℕ) → j < root_at layout → slice_index (set s.words i n) j ≡ slice_index s.words j
      below j h = get_or-set_other s.words i j n 0 (λ e. absurd (omega (arith, e, h, behind)))
