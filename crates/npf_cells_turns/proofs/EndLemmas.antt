-- The end of a turn keeps the rule: the slot holds what the pass leaves there, and the act's entry ends the history.
use Rattle.std.proofs.Common.{◌≡◌, ◌≢◌, ℕ, ◌+◌, ◌≤◌, true, Some, None, List, [], ◌∷◌, ◌++◌, map, set, length, slice_index, refl, sym, ap, ◌∙◌, subst, ⊎_elim, inl, arith, length-set}
use Rattle.std.{proofs.lemmas.List.{get_or-set_same, map-set}, specs.List.Contains}
use mathlib.Core.Option.{some}
use lib.ListN.{get_elem?}
use Rattle.atomic_table.{specs.Table.State, proofs.Lists.{at_map, at_set, set_here, set_else}}
use Rattle.npf_types.specs.declared.key.{Key.Key, Way.Way}
use Rattle.npf_core.specs.declared.{act.Act.TheVariants.Free, conn_id.ConnId.ConnId, entry.Entry.Entry, slot.Slot.Slot, stage.Stage.Stage}
use Rattle.npf_core.specs.{declared.stage.Stage.TheVariants.Building, History.{MayFollow, Legal, after, state_of}}
use Rattle.npf_core.{specs.{Machine.{Machine, stage_of, IsClaimed, HoldsNone}, Meaning.Meaning}, proofs.HistoryLemmas.{state_of-append, Legal-append}}
use Rattle.npf_core.proofs.HolderLemmas.{claimed_by}
use Rattle.npf_connections.specs.{Adding.AddsOwn, Pass.{IsPass, all_places}}
use Rattle.npf_cells_words.specs.declared.layout.{Layout.Layout, Pool.{Pool, TheVariants.{Slots, Nodes}}}
use Rattle.npf_cells_words.{specs.Layout.{turn_field, phase_field, field_at, epoch_word, reader_word}, proofs.WordLemmas.field_reach}
use Rattle.npf_seats.{specs.{Seats.{FitsSeats, Seats}, Sums.occurs}, proofs.{SeatLemmas.seats-adds, SumLemmas.{sum-set, set_there}}}
use Rattle.npf_cells_pins.specs.Epochs.{Epochs}
use Rattle.npf_cells_leaves.{specs.Trie.{Trie, trie_words}, proofs.TrieLemmas.{knows_same, trie_same}}
use Rattle.npf_cells_lives.specs.{declared.{pools.{Note.Note, PoolSide.PoolSide}, turn.Turn.Turn}, Conns.{FitsBuilds, Conns, entry_seat}}
use Rattle.npf_cells_lives.specs.{Deaths.{slots_named, slot_by, unreclaimed, Deaths, last_id}, Known.{FitsKnown, Known}, Notes.{note_word, FitsNote, Notes}}
use Rattle.npf_cells_lives.specs.{Pools.{claim_bit, taken}, Stored.FitsStored}
use Rattle.npf_cells_lives.specs.Turns.{Homes, Running, running, stage_phase, has_turn, turn_holders, StaysAt, FitsTurn, Turns}
use Rattle.npf_cells_lives.proofs.{ConnLemmas.{BuildsIn, unstored-set}, DeathLemmas.dead_by, FreedLemmas.{gone_in, freed_stays}}
use Rattle.npf_cells_lives.proofs.{KnownLemmas.{known_now, known-set}, LockLemmas.{locks-same, holders-set}, NoteLemmas.{SameAhead, ahead_of_none, notes-acted}}
use Rattle.npf_cells_lives.proofs.{PoolLemmas.{pools-kept, taken-set}, TurnLemmas.{has_once, has_none, turn_held, turns_alone, turns-changed}}
use Rattle.npf_cells_rule.specs.{declared.view.CellView.CellView, Cells.IsCells, Passes.cell_pass}
use Rattle.npf_cells_rule.specs.Views.{seat_side, reader_view, lock_side, pool_side, trie_side, turn_side, death_side, seen_side}
use Rattle.npf_cells_rule.proofs.{EntryLemmas.{adds_entry, sole_entries}, Frames.{alone-set, alone_still, framed}}
use Rattle.npf_cells_rule.proofs.MarkFrames.{marks_on, meets_same, words_slot}
use Rattle.npf_cells_rule.proofs.TurnFrames.{other_word, below, inc_else, lock_else, keeps_trie, stored_else, turn_step, notes_stay}
use Rattle.npf_cells_turns.proofs.ActLemmas.{ActsOn, inc_stays, bit_stays}

module _ {S A R : Type 0} (m : Meaning S A R) (digest : Key → ℕ) (layout : Layout) where
  module _ (s : State (Running S) (CellView S A R)) (kept : IsCells m digest layout s) (id : ℕ) (v : CellView S A R) (turn : Turn S)
      (at : get_elem? s.views id ≡ some v) (has : v.turn ≡ Some turn) (value : Running S) (quiet : turn.ahead ≡ None) where
    abbrev k : Machine S
    k = state_of m kept.log

    abbrev slot : ℕ
    slot = turn.slot

    abbrev ws : List ℕ
    ws = set s.words (field_at layout Slots slot turn_field) 0

    abbrev homes' : Homes S
    homes' = set s.homes slot (some value)

    -- the connections as turns see them
    abbrev free_k : Machine S
    free_k = unreclaimed death_side s.views k

    fits : FitsTurn layout free_k s.words turn
    fits = kept.turns.each id v turn at has

    other : (j : ℕ) → j ≢ field_at layout Slots slot turn_field → slice_index ws j ≡ slice_index s.words j
    other j ne = other_word m digest layout s kept slot turn_field 0 fits.exists (inl refl) j ne

    -- nobody has the turn then
    none_has : (w : CellView S A R) → w.turn ≡ None → turn_holders turn_side (set s.views id w) slot ≡ 0
    none_has w none =
        let more = sum-set (λ (u : CellView S A R). has_turn slot u.turn) s.views id v w at in
        let before : has_turn slot v.turn ≡ 1 = ap (has_turn slot) has ∙ has_once turn in
        let now : has_turn slot w.turn ≡ 0 = ap (has_turn slot) none in
        let all = turn_held turn_side layout free_k s.words s.homes s.views id v turn kept.turns at has in
        omega (arith, more, before, now, all)

    -- the part on turns, where the slot holds what it is at then
    pub turns_end : (k' : Machine S) (w : CellView S A R) → w.turn ≡ None → ((p : ℕ) → p ≢ slot → StaysAt (free_k.slot p) (k'.slot p)) →
        value ≡ running (k'.slot slot).stage → turn.phase ≡ stage_phase (k'.slot slot).stage →
        Turns turn_side layout k' ws homes' (set s.views id w)
    turns_end k' w none elsewhere runs phase = turns-changed turn_side layout free_k k' s.words ws s.homes homes' s.views id v w slot kept.turns at (record {
      reach = length-set s.homes slot (some value);
      turn = λ p h ne. other (field_at layout Slots p turn_field) (λ e. absurd (ne (omega (arith, e))));
      phase = λ p h ne. other (field_at layout Slots p phase_field) (λ e. absurd (omega (arith, e)));
      home = λ p ne. set_else s.homes slot p (some value) ne;
      slots = elsewhere;
      has = λ p ne. ap (has_turn p) none ∙ sym (ap (has_turn p) has ∙ has_none turn p (λ e. ne (sym e)));
      others = λ j u theirs ne e is same. ne (sym (turns_alone turn_side layout free_k s.words s.homes s.views id j v u turn theirs kept.turns at e has is (sym same)));
      says = get_or-set_same s.words (field_at layout Slots slot turn_field) 0 0 (let reach = field_reach layout Slots slot turn_field fits.exists (omega arith) in
          let long = kept.connections.reach in omega (arith, reach, long)) ∙ sym (none_has w none);
      alone = (let no = none_has w none in omega (arith, no));
      at_home = λ _. record {
        there = set_here s.homes slot (some value) (let reach = kept.turns.reach in let exists = fits.exists in omega (arith, reach, exists)) ∙ ap (λ x. some (some x)) runs;
        phase = other (field_at layout Slots slot phase_field) (λ e. absurd (omega (arith, e))) ∙ (fits.phase ∙ phase);
      };
      mine = λ turn' is. absurd (let no : None ≡ Some turn' = sym none ∙ is in cc);
    })

    -- and so it is ahead of no note
    pub ahead_none : SameAhead v.turn None
    ahead_none = ahead_of_none v.turn None (λ t is. let same : t ≡ turn = (let e : Some t ≡ Some turn = sym is ∙ has in cc) in
        ap (λ (y : Turn S). y.ahead) same ∙ quiet) (λ t is. absurd cc) (λ t is. absurd cc)

    -- as many slots are reclaimed where the pass reclaimed and cleared the same
    gone_like : (w : CellView S A R) → w.pools.reclaims ≡ v.pools.reclaims → w.pools.cleared ≡ v.pools.cleared → (p : ℕ) → gone_in death_side (set s.views id w) p ≡ gone_in death_side s.views p
    gone_like w reclaims cleared p =
        let one = sum-set (λ (u : CellView S A R). occurs p (slots_named u.pools.reclaims)) s.views id v w at in
        let two = sum-set (λ (u : CellView S A R). occurs p (slots_named u.pools.cleared)) s.views id v w at in
        let same = ap (λ ids. occurs p (slots_named ids)) reclaims in
        let also = ap (λ ids. occurs p (slots_named ids)) cleared in
        omega (arith, one, two, same, also)

    -- nothing was done
    pub ends_alone : 1 ≤ length v.seats.readers → value ≡ running (free_k.slot slot).stage → turn.phase ≡ stage_phase (free_k.slot slot).stage →
        IsCells m digest layout (record { words = ws; homes = homes'; views = set s.views id (record v { turn = None }) })
    ends_alone seated runs phase = turn_step m digest layout s kept slot turn_field 0 fits.exists (inl refl) id v (record v { turn = None }) homes' at refl refl refl refl ahead_none
        (alone_still v (record v { turn = None }) (kept.alone id v at) seated refl (λ none. none))
        (turns_end (unreclaimed death_side (set s.views id (record v { turn = None })) k) (record v { turn = None }) refl
        (λ p ne. freed_stays death_side s.views (set s.views id (record v { turn = None })) k k p (gone_like (record v { turn = None }) refl refl p) (inl refl))
        (runs ∙ ap (λ n. running (slot_by n (k.slot slot)).stage) (sym (gone_like (record v { turn = None }) refl refl slot)))
        (phase ∙ ap (λ n. stage_phase (slot_by n (k.slot slot)).stage) (sym (gone_like (record v { turn = None }) refl refl slot))))

    -- an act was done, which changes the stage of this slot alone, and what the pass builds and stored
    module _ (lives : v.seats.lives ≡ true) (settled : v.seats.theirs ≡ []) (seated : 1 ≤ length v.seats.readers) (entry : Entry S A R)
        (mine : entry.seat ≡ id) (follows : MayFollow m layout.slots k entry) (freeless : (i : ConnId) → ¬ (entry.act ≡ Free i))
        (stage : Stage S) (acts : ActsOn k (after m k entry) slot stage) (bit : claim_bit stage ≡ claim_bit (k.slot slot).stage)
        (runs : value ≡ running (slot_by (gone_in death_side s.views slot) (record (k.slot slot) { stage = stage })).stage)
        (phase : turn.phase ≡ stage_phase (slot_by (gone_in death_side s.views slot) (record (k.slot slot) { stage = stage })).stage)
        (side : PoolSide) (nodes : side.nodes ≡ v.pools.nodes) (back : side.unfreed ≡ v.pools.unfreed) (unstored : side.unstored ≡ v.pools.unstored)
        (reclaims : side.reclaims ≡ v.pools.reclaims) (cleared : side.cleared ≡ v.pools.cleared)
        (stored : FitsStored layout s.words side) (builds : FitsBuilds (after m k entry) id side.builds side.unstored)
        (others : (j : ℕ) (u : CellView S A R) → j ≢ id → get_elem? s.views j ≡ some u → FitsBuilds (after m k entry) j u.pools.builds u.pools.unstored)
        (noted : (note : Note) → Contains side.notes note → FitsNote layout k s.words side.builds note) (fresh : stage_phase stage ≡ 1 →
        (way : Way) → HoldsNone k (last_id k slot) way → note_word layout s.words slot way ≡ 0)
        (given : (i : ConnId) (way : Way) → Contains side.kills i → ¬ Contains side.gave_up (record { id = i; way = way }) →
        HoldsNone k i way → note_word layout s.words i.slot way ≡ 0) (loaded : ℕ) (scanned behind : List ℕ) where
      abbrev k' : Machine S
      k' = after m k entry

      abbrev log' : List (Entry S A R)
      log' = kept.log ++ entry ∷ []

      abbrev pub actor : CellView S A R
      actor = record v { seats = record v.seats { history = log' }; epochs = record v.epochs { loaded = loaded; scanned = scanned; behind = behind }; pools = side; turn = None }

      there : get_elem? (map seat_side s.views) id ≡ some v.seats
      there = at_map seat_side s.views id v at

      seat_fits : FitsSeats entry_seat layout.slots (map seat_side s.views) kept.log id v.seats
      seat_fits = kept.seats.each id v.seats there

      claimed : (i : ConnId) → IsClaimed (stage_of k i) → IsClaimed (stage_of k' i)
      claimed i c = claimed_by m layout.slots k entry i follows (freeless i) c

      builds_after : BuildsIn pool_side k' (set s.views id actor)
      builds_after j u e = ⊎_elim
          (λ (x : (j ≡ id) × (actor ≡ u)). subst (λ (y : ℕ × CellView S A R). FitsBuilds k' y.0 y.1.pools.builds y.1.pools.unstored) (λ i. (sym x.0 i, x.1 i)) builds)
          (λ (x : (j ≢ id) × (get_elem? s.views j ≡ some u)). others j u x.0 x.1)
          (at_set s.views id j actor u e)

      takes : (pool : Pool) (p : ℕ) → taken pool_side kept.published k' (set s.views id actor) pool p ≡ taken pool_side kept.published k s.views pool p
      takes Slots p = bit_stays k k' slot stage acts bit p
      takes Nodes p = taken-set pool_side kept.published k s.views id v actor at nodes back Nodes p

      state : state_of m log' ≡ k'
      state = state_of-append m kept.log entry

      connected : Conns pool_side m layout log' ws (set s.views id actor)
      connected = record {
        reach = length-set s.words (field_at layout Slots slot turn_field) 0 ∙ kept.connections.reach;
        legal = Legal-append m layout.slots kept.log entry kept.connections.legal follows;
        each = subst (λ x. BuildsIn pool_side x (set s.views id actor)) (sym state) builds_after;
        incs = λ p h. (λ i. inc_else m digest layout s kept slot turn_field 0 fits.exists (inl refl) p i + unstored-set pool_side s.views id v actor at unstored p i)
            ∙ (kept.connections.incs p h ∙ (sym (inc_stays k k' slot stage acts p) ∙ ap (λ x. (x.slot p).inc) (sym state)));
      }

      gone_still : (p : ℕ) → gone_in death_side (set s.views id actor) p ≡ gone_in death_side s.views p
      gone_still p = gone_like actor reclaims cleared p

      turns_after : Turns turn_side layout (unreclaimed death_side (set s.views id actor) k') ws homes' (set s.views id actor)
      turns_after = turns_end (unreclaimed death_side (set s.views id actor) k') actor refl
          (λ p ne. freed_stays death_side s.views (set s.views id actor) k k' p (gone_still p) (inl (acts.elsewhere p ne)))
          (runs ∙ ap running slot_is) (phase ∙ ap stage_phase slot_is)
        where
          slot_is : (slot_by (gone_in death_side s.views slot) (record (k.slot slot) { stage = stage })).stage ≡ (slot_by (gone_in death_side (set s.views id actor) slot) (k'.slot slot)).stage
          slot_is = λ i. (slot_by (sym (gone_still slot) i) (sym acts.here i)).stage

      notes_after : Notes turn_side pool_side layout (trie_words layout ws).cell k' ws (set s.views id actor)
      notes_after =
          let stay = notes_stay m digest layout s kept slot turn_field 0 fits.exists (inl refl) k (λ key. refl) (λ p. inl refl) in
          notes-acted turn_side pool_side layout k k' (trie_words layout s.words).cell (trie_words layout ws).cell s.words ws s.views id v actor slot kept.notes at ahead_none
          (λ i way c not none. given i way c not (λ key holds. none key (acts.holder key ∙ holds)))
          (λ t said way no' is firm field. absurd cc) noted stay.cells stay.notes acts.holder acts.elsewhere
          (λ live way none. fresh (ap (λ (x : Slot S). stage_phase x.stage) (sym acts.here) ∙ live) way
          (λ key holds. none key (acts.holder key ∙ subst (λ n. k.holder key ≡ Some (record { id = record { slot = slot; inc = n }; way = way })) (ap (λ (x : Slot S). x.inc) (sym acts.here)) holds)))

      -- an epoch that the pass still has is the one that it had
      pub ends_with : (1 ≤ loaded → loaded ≡ v.epochs.loaded) → Epochs (epoch_word ws) (reader_word ws) (map reader_view (set s.views id actor)) →
          Deaths death_side layout k' ws (set s.views id actor) → IsCells m digest layout (record { words = ws; homes = homes'; views = set s.views id actor })
      ends_with same_loaded epochs deaths =
          framed m digest layout s (record { words = ws; homes = homes'; views = set s.views id actor }) kept kept.published log' (length-set s.words (field_at layout Slots slot turn_field) 0)
          (subst (λ sides. Seats entry_seat layout.slots all_places log' sides) (sym (map-set seat_side s.views id actor))
          (seats-adds entry_seat layout.slots all_places kept.log (map seat_side s.views) id v.seats kept.seats there lives seated entry mine))
          epochs
          (pools-kept layout (taken pool_side kept.published k s.views) (taken pool_side kept.published (state_of m log') (set s.views id actor)) s.words ws kept.pools
          (length-set s.words (field_at layout Slots slot turn_field) 0)
          (below m digest layout s kept slot turn_field 0 fits.exists (inl refl)) (λ pool p. ap (λ x. taken pool_side kept.published x (set s.views id actor) pool p) state ∙ takes pool p))
          (subst (λ x. Trie trie_side digest layout kept.published x ws (set s.views id actor)) (sym state)
          (trie_same trie_side digest layout kept.published k k' s.words ws s.views id v actor kept.trie at (knows_same v.trie)
          (keeps_trie m digest layout s kept slot turn_field 0 fits.exists (inl refl) k' acts.holder claimed (λ i e. dead_by m layout.slots k entry i follows (freeless i) e))))
          connected
          (stored_else m digest layout s kept slot turn_field 0 fits.exists (inl refl) id actor stored)
          (locks-same lock_side layout s.words ws s.views (set s.views id actor) kept.locks
          (lock_else m digest layout s kept slot turn_field 0 fits.exists (inl refl)) (holders-set lock_side layout s.views id v actor at refl))
          (subst (λ x. Turns turn_side layout (unreclaimed death_side (set s.views id actor) x) ws homes' (set s.views id actor)) (sym state) turns_after)
          (subst (λ x. Deaths death_side layout x ws (set s.views id actor)) (sym state) deaths)
          (subst (λ x. Known (seen_side m) pool_side x (set s.views id actor)) (sym state) known_after)
          (subst (λ x. Notes turn_side pool_side layout (trie_words layout ws).cell x ws (set s.views id actor)) (sym state) notes_after)
          (marks_on m digest layout s kept ws id v actor at (words_slot layout kept.published s.words slot turn_field 0) (meets_same v.trie) back same_loaded refl)
          (alone-set s.views id actor (alone_still v actor (kept.alone id v at) seated refl (λ none. none)) kept.alone)
        where
          known_after : Known (seen_side m) pool_side k' (set s.views id actor)
          known_after = known-set (seen_side m) pool_side k k' s.views id actor kept.known
              (λ j u i ne e c way key holds. acts.holder key ∙ holds) (λ j u i ne e c way key holds. sym (acts.holder key) ∙ holds)
              (λ i c. subst (λ y. FitsKnown y k' i) (sym state) (known_now k' i (deaths.kills id actor i (set_there s.views id v actor at) c).dead))

      -- the entry ends what the pass has then seen
      pub adds_act : AddsOwn (cell_pass v) log' (record entry { seat = v.seats.number } ∷ [])
      adds_act = subst (AddsOwn (cell_pass v) log') (λ i. record { seat = (mine ∙ sym (seat_fits.lives lives).number) i; act = entry.act; reply = entry.reply } ∷ [])
          (adds_entry layout.slots kept.log (map seat_side s.views) id v kept.seats there lives seated entry mine)

      pub legal_after : (v.pools.builds ≡ [] → side.builds ≡ []) → IsPass m (cell_pass v) → IsPass m (cell_pass actor)
      legal_after fewer pass = record {
        legal = subst (λ slots. Legal m slots log') (sym (seat_fits.sized seated)) (Legal-append m layout.slots kept.log entry kept.connections.legal follows);
        stays = λ i c. subst (λ x. IsClaimed (stage_of x i)) (sym state) (claimed i ((kept.trie.each id v at).claimed i c));
        building = λ i c. ap (λ x. stage_of x i) state ∙ (builds.building i c ∙ ap (λ n. Building n) (sym (seat_fits.lives lives).number));
        unanswered = pass.unanswered;
        idle = λ out. fewer (pass.idle out);
        alone = sole_entries layout.slots kept.log (map seat_side s.views) id v kept.seats there lives seated entry mine settled;
        most = pass.most;
      }
