-- Kind 10, and the load of an incarnation, keep the rule.
use Rattle.std.specs.List.{Contains}
use Rattle.std.proofs.Common.{◌≤◌, ◌≡◌, ◌≢◌, ℕ, ◌+◌, ◌-◌, ◌^◌, ◌<◌, Bool, ◌&&◌, true, false, cond, eqb, eq-eqb, ne_eqb, Some, List, ◌∷◌, set, length}
use Rattle.std.proofs.Common.{slice_index, refl, sym, ap, ◌∙◌, subst, ⊎_elim, inl, arith, length-set, nat_lt}
use Rattle.std.proofs.lemmas.{Bool.Decides.{Decides-eqb, not_from_Decides, Decides-ltb}, List.{get_or-set_same, get_or-set_other, set-get_or}}
use mathlib.Core.Option.{some}
use lib.ListN.{get_elem?}
use Rattle.atomic_table.specs.Table.{State, Me, Step, Act, Allows, Valid, carried_after, stepped, keeps}
use Rattle.npf_types.specs.declared.key.{Key.Key, Way.Way}
use Rattle.npf_core.{specs.{declared.{conn_id.ConnId.ConnId, slot.Slot.Slot}, History.state_of, Meaning.Meaning}, proofs.IdentityLemmas.counts_incarnations}
use Rattle.npf_paths.specs.declared.place.Place.TheVariants as Places
use Rattle.npf_cells_words.specs.declared.layout.{Layout.Layout, Pool.{Pool, TheVariants.{Slots, Nodes}}}
use Rattle.npf_cells_words.specs.Layout.{inc_field, parent_field, phase_field, state_field, notes_field, field_at, field_count, pool_places, note_field}
use Rattle.npf_cells_words.{specs.Places.{lock_at, place_at}, proofs.WordLemmas.{inc_apart, field_behind, field_reach, node_apart, note_late, parent_apart}}
use Rattle.npf_seats.{specs.Sums.{others_than, occurs}, proofs.{ListLemmas.{occurs_or, stands_once}, PrefixLemmas.cons_cases, SumLemmas.sum_alone}}
use Rattle.npf_cells_leaves.{specs.Trie.trie_words, proofs.TrieLemmas.{KeepsTrie, knows_same, trie_same}}
use Rattle.npf_cells_lives.specs.{declared.pools.StoredWord.StoredWord, Conns.{inc_word, unstored_by, Conns}, Deaths.{has_epoch, unreclaimed, Deaths}}
use Rattle.npf_cells_lives.specs.{Locks.Locks, Stored.{stored_value, IsOwnField, FitsStored, StoredWords}}
use Rattle.npf_cells_lives.proofs.{ConnLemmas.{building_at, builds-kept, unstored-set, conns-same, inc_shown, conns-stored}, DeathLemmas.{epoch_note, low_note}}
use Rattle.npf_cells_lives.proofs.{FreedLemmas.still_there, LockLemmas.{locks-same, holders-set}, NoteLemmas.same_ahead}
use Rattle.npf_cells_lives.{proofs.StoredLemmas.{own_same, stored_kept, stored-set, no_lock, no_note, no_turn}, specs.Turns.{Running, stage_phase, Turns}}
use Rattle.npf_cells_marks.specs.Marks.{Marks}
use Rattle.npf_cells_rule.specs.{declared.view.CellView.CellView, Cells.IsCells}
use Rattle.npf_cells_rule.{specs.Views.{lock_side, mark_side, pool_side, trie_side, turn_side, death_side, with_pools}, proofs.DeathFrames.deaths_load}
use Rattle.npf_cells_rule.proofs.Frames.{alone_still, private_step, trie_apart, stored_apart, locks_apart, turns_apart, turns_behind, notes_apart, notes_still}
use Rattle.npf_cells_rule.proofs.{LawLemmas.{builds_alone, owns_alone}, MarkFrames.{marks_on, meets_same, words_loaded, words_slot}}
use Rattle.npf_cells_rule.proofs.{MarkMetLemmas.{mark_there, marks_in_own}, MetLemmas.unowned}
use Rattle.npf_cells_takes.specs.PrivateKinds.{ShowsInc, ShowsTurnInc, MayStore, MayStoreInNode, MayStoreInSlot, MayStorePhase, MayLetGo, storing, with_phase, letting_go}
use Rattle.npf_cells_takes.specs.PrivateKinds.{is_epoch_note, stored_in, LoadsInc, StoresPrivate, MayStoreNote, MayStoreAhead, StoresAhead, noted_in}
use Rattle.npf_cells_takes.proofs.{LetGoLemmas.lets_go, DeathKeepLemmas.{deaths_elsewhere, deaths_in_node}, NoteKeepLemmas.{noted, led}}
use Rattle.npf_cells_takes.proofs.{PhaseKeepLemmas.phase_stored, PrivateTrieLemmas.{node_keeps, slot_keeps}}
use Rattle.npf_cells_lives.specs.Notes.{notes_but, with_ahead, Notes}

-- a number isn't below one that it isn't below
not_below : (a b : ℕ) → ¬ (a < b) → nat_lt a b ≡ false
not_below a b above = by_test (nat_lt a b) refl
  where
    by_test : (test : Bool) → nat_lt a b ≡ test → nat_lt a b ≡ false
    by_test true e = absurd (above ((Decides-ltb a b).0 e))
    by_test false e = e

-- the pass may store in a word of its own that isn't a phase
abbrev MayStoreOwn : {S A R : Type 0} → Meaning S A R → CellView S A R → Pool → ℕ → ℕ → ℕ → Type 0
MayStoreOwn m v Slots slot field value = MayStoreInSlot m v slot field value
MayStoreOwn m v Nodes node field value = MayStoreInNode v.pools node field value

-- a note that names a place has no epoch, and one that lets go has one
no_epoch : (field value : ℕ) → (notes_field ≤ field → value < 2 ^ 63) → is_epoch_note field value ≡ false
no_epoch field value low = by_test (eqb field notes_field) refl
  where
    by_test : (b : Bool) → eqb field notes_field ≡ b → (b && eqb (has_epoch value) 1) ≡ false
    by_test true e = ap (λ n. eqb n 1) (low_note value (low (let is = (Decides-eqb field notes_field).0 e in omega (arith, is))))
    by_test false e = refl

an_epoch : (field value epoch : ℕ) → field ≡ notes_field → value ≡ 2 ^ 63 + epoch → is_epoch_note field value ≡ true
an_epoch field value epoch is so = λ i. eq-eqb field notes_field is i && eqb ((ap has_epoch so ∙ epoch_note epoch) i) 1

module _ {S A R : Type 0} (m : Meaning S A R) (digest : Key → ℕ) (layout : Layout) where
  -- who owns one word is one seat
  own_alone : (s : State (Running S) (CellView S A R)) (kept : IsCells m digest layout s) (i j : ℕ) (v w : CellView S A R) → get_elem? s.views i ≡ some v →
      get_elem? s.views j ≡ some w → (pool : Pool) (place field : ℕ) (other : Pool) (place' field' : ℕ) →
      IsOwnField layout v.pools pool place field → IsOwnField layout w.pools other place' field' → field_at layout pool place field ≡ field_at layout other place' field' → i ≡ j
  own_alone s kept i j v w at there Slots place field Slots place' field' own own' e =
      let same : place ≡ place' = (let a = own.3 in let b = own'.3 in omega (arith, a, b, e)) in
      builds_alone m layout digest s i j v w own.0.id own'.0.id kept at there own.0.built own'.0.built (own.0.there ∙ (same ∙ sym own'.0.there))
  own_alone s kept i j v w at there Slots place field Nodes place' field' own own' e = absurd (let a = own'.1 in let b = own'.2 in omega (arith, a, b, e))
  own_alone s kept i j v w at there Nodes place field Slots place' field' own own' e = absurd (let a = own.1 in let b = own.2 in omega (arith, a, b, e))
  own_alone s kept i j v w at there Nodes place field Nodes place' field' own own' e =
      let same : place ≡ place' = (let a = own.2 in let b = own'.2 in omega (arith, a, b, e)) in
      owns_alone m layout digest s i j place v w kept at there own.0 (subst (Contains w.pools.nodes) (sym same) own'.0)

  -- a step on another word than those of incarnations, which leaves the views
  conns_else : (s : State (Running S) (CellView S A R)) (i n id : ℕ) (v : CellView S A R) (kept : IsCells m digest layout s) → get_elem? s.views id ≡ some v →
      ((slot : ℕ) → slot < layout.slots → slice_index (set s.words i n) (field_at layout Slots slot inc_field) ≡ slice_index s.words (field_at layout Slots slot inc_field)) →
      Conns pool_side m layout kept.log (set s.words i n) (set s.views id v)
  conns_else s i n id v kept at same = conns-same pool_side m layout kept.log s.words (set s.words i n) s.views (set s.views id v) kept.connections (length-set s.words i n) same
      (builds-kept pool_side (state_of m kept.log) s.views id v v at refl refl kept.connections.each) (unstored-set pool_side s.views id v v at refl)

  shows_inc : (s : State (Running S) (CellView S A R)) (id slot : ℕ) (v : CellView S A R) → IsCells m digest layout s → get_elem? s.views id ≡ some v → slot < layout.slots →
      ShowsInc v.pools slot (inc_word layout s.words slot)
  shows_inc s id slot v kept at within = record {
    stored = λ i c e no. ⊎_elim
        (λ (none : occurs slot v.pools.unstored ≡ 0). let sum = shown i c e in omega (arith, sum, none))
        (λ owes. absurd (no owes))
        (occurs_or slot v.pools.unstored);
    before = λ i c e owes.
        let sum = shown i c e in
        let once = (kept.connections.each id v at).once slot in
        let some' = stands_once slot v.pools.unstored owes in
        omega (arith, sum, once, some');
    most = λ i c e.
        let last = (counts_incarnations m layout.slots kept.log i.slot kept.connections.legal).last in
        let here = (building_at ((state_of m kept.log).slot i.slot) i.inc id ((kept.connections.each id v at).building i c)).0 in
        omega (arith, last, here);
  }
    where
      shown : (i : ConnId) → Contains v.pools.builds i → i.slot ≡ slot → inc_word layout s.words slot + occurs slot v.pools.unstored ≡ i.inc
      shown i c e = subst (λ p. inc_word layout s.words p + occurs p v.pools.unstored ≡ i.inc) e
          (inc_shown pool_side m layout kept.log s.words s.views id v kept.connections at i c (subst (λ p. p < layout.slots) (sym e) within))

  -- nobody still has to store the incarnation of a connection that is Live or Dead
  none_owes : (s : State (Running S) (CellView S A R)) (kept : IsCells m digest layout s) (id : ℕ) (v : CellView S A R) → get_elem? s.views id ≡ some v →
      (slot : ℕ) → stage_phase ((state_of m kept.log).slot slot).stage ≢ 0 → unstored_by pool_side s.views slot ≡ 0
  none_owes s kept id v at slot settled = sum_alone (λ (u : CellView S A R). occurs slot u.pools.unstored) s.views id v at (λ i u ne e. owes i u e) ∙ owes id v at
    where
      owes : (j : ℕ) (u : CellView S A R) → get_elem? s.views j ≡ some u → occurs slot u.pools.unstored ≡ 0
      owes j u e = ⊎_elim
          (λ none. none)
          (λ c.
          let fits = kept.connections.each j u e in
          let owed = fits.owing slot c in
          let stage = building_at ((state_of m kept.log).slot owed.id.slot) owed.id.inc j (fits.building owed.id owed.built) in
          absurd (settled (subst (λ p. stage_phase ((state_of m kept.log).slot p).stage ≡ 0) owed.there (ap stage_phase stage.1))))
          (occurs_or slot u.pools.unstored)

  shows_turn_inc : (s : State (Running S) (CellView S A R)) (kept : IsCells m digest layout s) (id : ℕ) (v : CellView S A R) →
      get_elem? s.views id ≡ some v → (slot : ℕ) → ShowsTurnInc v.turn slot (inc_word layout s.words slot)
  shows_turn_inc s kept id v at slot turn has there settled =
      let fits = kept.turns.each id v turn at has in
      let same = (still_there death_side s.views (state_of m kept.log) turn.slot turn.was fits.stays settled).0 in
      let none = none_owes s kept id v at turn.slot (λ idle. settled (ap (λ (x : Slot S). stage_phase x.stage) (sym same) ∙ idle)) in
      let word = kept.connections.incs turn.slot fits.exists in
      let last = ap (λ (x : Slot S). x.inc) same in
      let here : inc_word layout s.words turn.slot ≡ turn.was.inc = omega (arith, word, none, last) in
      ap (inc_word layout s.words) (sym there) ∙ here

  pub may_load_inc : (st : Step (Running S)) (id n slot : ℕ) (me : Me (Running S) (CellView S A R)) → slot < layout.slots →
      Allows (IsCells m digest layout) n id me (field_at layout Slots slot inc_field) (λ k. k) (LoadsInc slot st me)
  may_load_inc st id n slot me within s kept homes at bound =
      let i = field_at layout Slots slot inc_field in (
        me.0,
        keeps,
        tt,
        private_step m digest layout s i (slice_index s.words i) id me.1 me.0 me.0 kept at (field_behind layout Slots slot inc_field) refl refl refl refl refl (λ i' c. c) (kept.alone id me.0 at)
            (trie_apart m digest layout s i (slice_index s.words i) id me.0 me.0 kept at (knows_same me.0.trie) (λ j h. ap (λ ws. slice_index ws j) (set-get_or s.words i 0)))
            (conns_else s i (slice_index s.words i) id me.0 kept at (λ p h. ap (λ ws. slice_index ws (field_at layout Slots p inc_field)) (set-get_or s.words i 0)))
            (stored_apart m digest layout s i (slice_index s.words i) id me.0 kept (kept.stored id me.0 at) (λ j h. ap (λ ws. slice_index ws j) (set-get_or s.words i 0)))
            (locks_apart m digest layout s i (slice_index s.words i) id me.0 me.0 kept at refl (λ j h. ap (λ ws. slice_index ws j) (set-get_or s.words i 0)))
            (turns_behind m digest layout s i (slice_index s.words i) id me.0 me.0 kept at refl refl (λ j h. ap (λ ws. slice_index ws j) (set-get_or s.words i 0)))
            (deaths_load m digest layout s i id me.0 me.0 kept at refl refl (record { rests = λ j dead bare rests. (rests, refl) }))
            (notes_still m digest layout s i (slice_index s.words i) id me.0 me.0 kept at refl refl refl refl (λ j h. ap (λ ws. slice_index ws j) (set-get_or s.words i 0)))
            (marks_on m digest layout s kept (set s.words i (slice_index s.words i)) id me.0 me.0 at (words_loaded layout kept.published s.words i) (meets_same me.0.trie) refl (λ _. refl) refl),
        record {
          is = refl;
          shows = shows_inc s id slot me.0 kept at within;
          leaf = λ leaf e there. ap (λ p. inc_word layout s.words p) (sym there) ∙ ((kept.trie.each id me.0 at).leaf leaf e).inc;
          turn = shows_turn_inc s kept id me.0 at slot;
        },
      )

  module _ (s : State (Running S) (CellView S A R)) (id : ℕ) (me : Me (Running S) (CellView S A R))
      (kept : IsCells m digest layout s) (at : get_elem? s.views id ≡ some me.0) (place field value : ℕ) where
    abbrev storer : Pool → CellView S A R
    storer pool = record me.0 { pools = storing pool place field value me.0.pools }

    abbrev with_stored : Pool → List ℕ → CellView S A R
    with_stored pool unstored = record me.0 { pools = record me.0.pools { unstored = unstored; stored = (record { pool = pool; place = place; field = field; value = value }) ∷ me.0.pools.stored } }

    abbrev Stored : Pool → CellView S A R → Type 0
    Stored pool w = IsCells m digest layout (stepped s (field_at layout pool place field) value id me.1 w keeps)

    abbrev words' : Pool → List ℕ
    words' pool = set s.words (field_at layout pool place field) value

    reaches : (pool : Pool) → place < pool_places layout pool → field < field_count pool → field_at layout pool place field < length s.words
    reaches pool within exists = let reach = field_reach layout pool place field within exists in let long = kept.connections.reach in omega (arith, reach, long)

    owns : (pool : Pool) → place < pool_places layout pool → field < field_count pool → MayStoreOwn m me.0 pool place field value → IsOwnField layout me.0.pools pool place field
    owns Slots within exists may = (record { id = may.id; built = may.built; there = may.there }, within, may.turnless, may.noteless, may.phaseless)
    owns Nodes within exists may = (may.owned, within, exists, may.stateless)

    -- the trie, what passes stored, and the locks
    trie_stays : me.0.seats.lives ≡ true → (pool : Pool) → place < pool_places layout pool → field < field_count pool → MayStoreOwn m me.0 pool place field value →
        KeepsTrie layout.slots (state_of m kept.log) (state_of m kept.log) (trie_words layout s.words) (trie_words layout (words' pool))
    trie_stays lives Slots within exists may = slot_keeps m digest layout s kept id me.0 place field value at lives within exists (reaches Slots within exists) may
    trie_stays lives Nodes within exists may = node_keeps m digest layout s kept id me.0 place field value at within exists may.owned

    newly : (pool : Pool) (unstored : List ℕ) → IsOwnField layout me.0.pools pool place field →
        field_at layout pool place field < length s.words → FitsStored layout (words' pool) (with_stored pool unstored).pools
    newly pool unstored own there = record {
      own = λ x c. ⊎_elim
          (λ (e : new ≡ x). subst (λ (y : StoredWord). IsOwnField layout (with_stored pool unstored).pools y.pool y.place y.field) e
          (own_same layout me.0.pools (with_stored pool unstored).pools refl refl pool place field own))
          (λ c'. own_same layout me.0.pools (with_stored pool unstored).pools refl refl x.pool x.place x.field (fits.own x c'))
          (cons_cases new x me.0.pools.stored c);
      stands = λ word n e. by_word word n (eqb (field_at layout pool place field) word) refl e;
    }
      where
        new : StoredWord
        new = record { pool = pool; place = place; field = field; value = value }

        fits : FitsStored layout s.words me.0.pools
        fits = kept.stored id me.0 at

        by_word : (word n : ℕ) (b : Bool) → eqb (field_at layout pool place field) word ≡ b →
            cond b (Some value) (stored_value layout me.0.pools.stored word) ≡ Some n → slice_index (words' pool) word ≡ n
        by_word word n true here e =
            let is : field_at layout pool place field ≡ word = (Decides-eqb _ word).0 here in
            let same : value ≡ n = cc in
            ap (slice_index (words' pool)) (sym is) ∙ (get_or-set_same s.words (field_at layout pool place field) value 0 there ∙ same)
        by_word word n false here e =
            let other : field_at layout pool place field ≢ word = not_from_Decides _ (Decides-eqb _ word) here in
            get_or-set_other s.words (field_at layout pool place field) word value 0 (λ is. other (sym is)) ∙ fits.stands word n e

    stored_stay : (pool : Pool) (unstored : List ℕ) → IsOwnField layout me.0.pools pool place field → field_at layout pool place field < length s.words →
        StoredWords pool_side layout (words' pool) (set s.views id (with_stored pool unstored))
    stored_stay pool unstored own there = stored-set pool_side layout (words' pool) s.views id (with_stored pool unstored) (newly pool unstored own there)
        (λ j u ne e. stored_kept layout s.words (words' pool) u.pools u.pools (kept.stored j u e) refl (λ other p f h. h)
        (λ other p f h. get_or-set_other s.words (field_at layout pool place field) (field_at layout other p f) value 0
        (λ is. ne (own_alone s kept j id u me.0 e at other p f pool place field h own is))))

    locks_stay : (pool : Pool) (unstored : List ℕ) → IsOwnField layout me.0.pools pool place field → Locks lock_side layout (words' pool) (set s.views id (with_stored pool unstored))
    locks_stay pool unstored own = locks-same lock_side layout s.words (words' pool) s.views (set s.views id (with_stored pool unstored)) kept.locks
        (λ lock h. get_or-set_other s.words (field_at layout pool place field) (lock_at layout lock) value 0 (no_lock layout me.0.pools pool place field lock own h))
        (holders-set lock_side layout s.views id me.0 (with_stored pool unstored) at refl)

    turns_stay : (pool : Pool) (unstored : List ℕ) → IsOwnField layout me.0.pools pool place field →
        Turns turn_side layout (unreclaimed death_side (set s.views id (with_stored pool unstored)) (state_of m kept.log)) (words' pool) s.homes (set s.views id (with_stored pool unstored))
    turns_stay pool unstored own = turns_apart m digest layout s (field_at layout pool place field) value id me.0 (with_stored pool unstored) (state_of m kept.log) kept at refl refl
        (λ slot f h is. get_or-set_other s.words (field_at layout pool place field) (field_at layout Slots slot f) value 0
        (no_turn layout me.0.pools pool place field slot f own h is)) (λ slot. inl refl)

    deaths_stay : (pool : Pool) (unstored : List ℕ) → place < pool_places layout pool → field < field_count pool → MayStoreOwn m me.0 pool place field value →
        Deaths death_side layout (state_of m kept.log) (words' pool) (set s.views id (with_stored pool unstored))
    deaths_stay Slots unstored within exists may =
        deaths_elsewhere m digest layout s id me kept at place field value within exists (with_stored Slots unstored) refl refl refl (λ e. omega (arith, e, may.noteless))
    deaths_stay Nodes unstored within exists may = deaths_in_node m digest layout s id me kept at place field value (with_stored Nodes unstored) within exists refl refl refl

    -- no note is stored
    notes_stay : me.0.seats.lives ≡ true → (pool : Pool) (unstored : List ℕ) → place < pool_places layout pool → field < field_count pool → MayStoreOwn m me.0 pool place field value →
        Notes turn_side pool_side layout (trie_words layout (words' pool)).cell (state_of m kept.log) (words' pool) (set s.views id (with_stored pool unstored))
    notes_stay lives pool unstored within exists may =
        notes_apart m digest layout s (words' pool) id me.0 (with_stored pool unstored) (state_of m kept.log) kept at (same_ahead me.0.turn me.0.turn refl) refl refl (λ conn c. c) (record {
          cells = (trie_stays lives pool within exists may).cells;
          notes = λ slot way. get_or-set_other s.words (field_at layout pool place field) (field_at layout Slots slot (note_field way)) value 0
              (no_note layout me.0.pools pool place field slot way (owns pool within exists may));
          held = λ key found is. is;
          back = λ key found is. is;
          slots = λ slot. inl refl;
        })

    -- in a place of a node that the pass owns no mark is stored, and a parent that changes is that of no published node
    marks_stay : (pool : Pool) (unstored : List ℕ) → place < pool_places layout pool → field < field_count pool → MayStoreOwn m me.0 pool place field value →
        Marks mark_side layout kept.published (words' pool) (set s.views id (with_stored pool unstored))
    marks_stay Slots unstored within exists may =
        marks_on m digest layout s kept (words' Slots) id me.0 (with_stored Slots unstored) at (words_slot layout kept.published s.words place field value) (meets_same me.0.trie) refl (λ _. refl) refl
    marks_stay Nodes unstored within exists may = by_field (nat_lt field 16) refl
      where
        -- the parent word
        in_parent : field ≡ parent_field → Marks mark_side layout kept.published (words' Nodes) (set s.views id (with_stored Nodes unstored))
        in_parent is = marks_on m digest layout s kept (words' Nodes) id me.0 (with_stored Nodes unstored) at (record {
          goes = (let same = other 0 (λ e. absurd (let far = field_behind layout Nodes place field in omega (arith, e, far))) in omega (arith, same));
          places = λ p inside. other (place_at layout p) (λ e. parent_apart layout p place inside (ap (λ f. field_at layout Nodes place f) (sym is) ∙ sym e));
          states = λ node there. other (field_at layout Nodes node state_field) (λ e. absurd (omega (arith, is, e)));
          parents = λ node there listed. other (field_at layout Nodes node parent_field) (λ e. unlisted (subst (λ n. Contains kept.published n) (omega (arith, is, e)) listed));
        }) (meets_same me.0.trie) refl (λ _. refl) refl
          where
            other : (j : ℕ) → (j ≡ field_at layout Nodes place field → ⊥) → slice_index (words' Nodes) j ≡ slice_index s.words j
            other j ne = get_or-set_other s.words (field_at layout Nodes place field) j value 0 ne

            unlisted : ¬ (Contains kept.published place)
            unlisted = unowned m digest layout s kept id me.0 place at within may.owned

        by_field : (b : Bool) → nat_lt field 16 ≡ b → Marks mark_side layout kept.published (words' Nodes) (set s.views id (with_stored Nodes unstored))
        by_field true e =
            let low : field < 16 = (Decides-ltb field 16).0 e in
            marks_in_own m digest layout s kept (Places.Node place field) (within, low) id place value me.0 (with_stored Nodes unstored) at refl may.owned
            (λ mark. may.markless low (let is = mark_there value mark in omega (arith, is))) refl
        by_field false e = in_parent (let high : ¬ (field < 16) = (λ low. absurd (let no : true ≡ false = sym ((Decides-ltb field 16).1 low) ∙ e in cc)) in
            let ne = may.stateless in omega (arith, exists, ne, high))

    -- as long as the part on connections holds
    stored_step : me.0.seats.lives ≡ true → 1 ≤ length me.0.seats.readers → (pool : Pool) (unstored : List ℕ) →
        place < pool_places layout pool → field < field_count pool → MayStoreOwn m me.0 pool place field value →
        Conns pool_side m layout kept.log (words' pool) (set s.views id (with_stored pool unstored)) → Stored pool (with_stored pool unstored)
    stored_step lives seated pool unstored within exists may connections =
        let own = owns pool within exists may in
        private_step m digest layout s (field_at layout pool place field) value id me.1 me.0 (with_stored pool unstored) kept at
        (field_behind layout pool place field) refl refl refl refl refl (λ i c. c) (alone_still me.0 (with_stored pool unstored) (kept.alone id me.0 at) seated refl (λ none. none))
        (trie_same trie_side digest layout kept.published (state_of m kept.log) (state_of m kept.log) s.words (words' pool) s.views id me.0
        (with_stored pool unstored) kept.trie at (knows_same me.0.trie) (trie_stays lives pool within exists may))
        connections (stored_stay pool unstored own (reaches pool within exists)) (locks_stay pool unstored own) (turns_stay pool unstored own)
        (deaths_stay pool unstored within exists may) (notes_stay lives pool unstored within exists may) (marks_stay pool unstored within exists may)

    conns_stay : (pool : Pool) → ((slot : ℕ) → slot < layout.slots → field_at layout Slots slot inc_field ≢ field_at layout pool place field) →
        Conns pool_side m layout kept.log (words' pool) (set s.views id (with_stored pool me.0.pools.unstored))
    conns_stay pool apart = conns-same pool_side m layout kept.log s.words (words' pool) s.views
        (set s.views id (with_stored pool me.0.pools.unstored)) kept.connections (length-set s.words (field_at layout pool place field) value)
        (λ slot h. get_or-set_other s.words (field_at layout pool place field) (field_at layout Slots slot inc_field) value 0 (apart slot h))
        (builds-kept pool_side (state_of m kept.log) s.views id me.0 (with_stored pool me.0.pools.unstored) at refl refl kept.connections.each)
        (unstored-set pool_side s.views id me.0 (with_stored pool me.0.pools.unstored) at refl)

    -- the incarnation is stored
    incs_stay : (may : MayStoreInSlot m me.0 place field value) → place < layout.slots → field ≡ inc_field →
        Conns pool_side m layout kept.log (words' Slots) (set s.views id (with_stored Slots (others_than place me.0.pools.unstored)))
    incs_stay may within e =
        let w = with_stored Slots (others_than place me.0.pools.unstored) in
        let below : may.id.slot < layout.slots = subst (λ p. p < layout.slots) (sym may.there) within in
        let long = kept.connections.reach in
        subst (λ (y : ℕ × ℕ × ℕ). Conns pool_side m layout kept.log (set s.words (field_at layout Slots y.0 y.1) y.2) (set s.views id w)) (λ t. (may.there t, sym e t, sym (may.inc e) t))
        (conns-stored pool_side m layout kept.log s.words s.views id me.0 kept.connections at may.id may.built below w refl (ap (λ p. others_than p me.0.pools.unstored) (sym may.there))
        (let reach = field_reach layout Slots may.id.slot inc_field below (omega arith) in omega (arith, reach, long)))

    pub stores : me.0.seats.lives ≡ true → 1 ≤ length me.0.seats.readers → (pool : Pool) → place < pool_places layout pool →
        field < field_count pool → MayStoreOwn m me.0 pool place field value → Stored pool (storer pool)
    stores lives seated Nodes within exists may = stored_step lives seated Nodes me.0.pools.unstored within exists may (conns_stay Nodes (λ slot h. node_apart layout place field slot within exists))
    stores lives seated Slots within exists may = by_field (eqb field inc_field) refl
      where
        by_field : (b : Bool) → eqb field inc_field ≡ b → Stored Slots (with_stored Slots (cond b (others_than place me.0.pools.unstored) me.0.pools.unstored))
        by_field true e = stored_step lives seated Slots (others_than place me.0.pools.unstored) within exists may (incs_stay may within ((Decides-eqb field inc_field).0 e))
        by_field false e = stored_step lives seated Slots me.0.pools.unstored within exists may
            (conns_stay Slots (λ slot h same. inc_apart layout place field slot exists (λ _. not_from_Decides _ (Decides-eqb field inc_field) e) (sym same)))

  pub may_store : (st : Step (Running S)) (id n : ℕ) (pool : Pool) (place field value : ℕ) (me : Me (Running S) (CellView S A R)) →
      me.0.seats.lives ≡ true → 1 ≤ length me.0.seats.readers → place < pool_places layout pool → field < field_count pool →
      MayStore m me.0 pool place field value →
      Allows (IsCells m digest layout) n id me (field_at layout pool place field) (λ _. value) (λ _. StoresPrivate m digest layout pool place field st me value)
  may_store st id n Nodes place field value me lives seated within exists may s kept homes at bound = (
    storer s id me kept at place field value Nodes,
    keeps,
    tt,
    stores s id me kept at place field value lives seated Nodes within exists may,
    record { is = refl },
  )
  may_store st id n Slots place field value me lives seated within exists may s kept homes at bound = ⊎_elim in_own (λ more. ⊎_elim in_phase (λ rest. ⊎_elim in_note in_epoch rest) more) may
    where
      Stores : Type 0
      Stores = (w : CellView S A R) × (a : Act (Running S)) × Valid s.homes me.1 a × IsCells m digest layout (stepped s (field_at layout Slots place field) value id me.1 w a)
          × StoresPrivate m digest layout Slots place field st me value (w, carried_after me.1 a)

      -- the pass after it, by whether it is a phase, whether it is a word before the notes, and whether it is an epoch in a note
      after' : Bool → Bool → Bool → Me (Running S) (CellView S A R)
      after' b c d = cond b (
        record me.0 { turn = with_phase value me.0.turn },
        me.1,
      ) (cond c (with_pools me (storing Slots place field value me.0.pools)) (cond d (with_pools me (letting_go place (value - 2 ^ 63) me.0.pools)) (noted_in place field value me)))

      is_after : {b c d : Bool} → eqb field phase_field ≡ b → nat_lt field notes_field ≡ c → is_epoch_note field value ≡ d → after' b c d ≡ stored_in Slots place field value me
      is_after e f g = sym (λ i. after' (e i) (f i) (g i))

      noter' : ℕ → CellView S A R
      noter' f = record me.0 { pools = record me.0.pools { notes = (record { slot = place; field = f; value = value }) ∷ notes_but place f me.0.pools.notes } }

      -- a store of a note
      is_noted : (way : Way) → field ≡ note_field way → value < 2 ^ 63 → stored_in Slots place field value me ≡ noted_in place field value me
      is_noted way note low =
          let late = note_late way in
          sym (is_after (ne_eqb field phase_field (λ e. omega (arith, note, late, e))) (not_below field notes_field (λ below. omega (arith, note, late, below))) (no_epoch field value (λ _. low)))

      in_own : MayStoreInSlot m me.0 place field value → Stores
      in_own own = (
        storer s id me kept at place field value Slots,
        keeps,
        tt,
        stores s id me kept at place field value lives seated Slots within exists own,
        record { is = is_after {d = is_epoch_note field value} (ne_eqb field phase_field own.phaseless) ((Decides-ltb field notes_field).1 own.noteless) refl },
      )

      in_phase : MayStorePhase me.0 place field → Stores
      in_phase under = (
        record me.0 { turn = with_phase value me.0.turn },
        keeps,
        tt,
        subst (λ (y : ℕ × ℕ). IsCells m digest layout (stepped s (field_at layout Slots y.0 y.1) value id me.1 (record me.0 { turn = with_phase value me.0.turn }) keeps))
            (λ i. (under.there i, sym under.phase i))
            (phase_stored m digest layout s kept id me.0 under.turn value at under.has seated),
        record { is = is_after {c = nat_lt field notes_field} {d = is_epoch_note field value} (eq-eqb field phase_field under.phase) refl refl },
      )

      in_epoch : MayLetGo m me.0 place field value → Stores
      in_epoch go = (
        record me.0 { pools = letting_go place (value - 2 ^ 63) me.0.pools },
        keeps,
        tt,
        subst (λ f. IsCells m digest layout (stepped s (field_at layout Slots place f) value id me.1 (record me.0 { pools = letting_go place (value - 2 ^ 63) me.0.pools }) keeps)) (sym go.note)
            (lets_go m digest layout s id me kept at place value within (record {
              id = go.id;
              killed = go.killed;
              there = go.there;
              note = refl;
              bare = go.bare;
              loaded = go.loaded;
              epoch = go.epoch;
            }) seated),
        record {
          is = is_after (ne_eqb field phase_field (λ e. absurd (let note = go.note in omega (arith, e, note))))
              (not_below field notes_field (λ low. omega (arith, low, go.note))) (an_epoch field value me.0.epochs.loaded go.note go.epoch);
        },
      )

      in_note : MayStoreNote m me.0 place field value → Stores
      in_note note = (
        noter' field,
        keeps,
        tt,
        subst (λ f. IsCells m digest layout (stepped s (field_at layout Slots place f) value id me.1 (noter' f) keeps))
            (sym note.note) (noted m digest layout s kept id me.0 at place note.way value within seated lives
            (record { id = note.id; built = note.built; there = note.there; way = note.way; note = refl; bare = note.bare; low = note.low }) refl),
        record { is = sym (is_noted note.way note.note note.low) },
      )

  pub may_store_ahead : (st : Step (Running S)) (id n slot : ℕ) (way : Way) (value : ℕ) (me : Me (Running S) (CellView S A R)) →
      1 ≤ length me.0.seats.readers → slot < layout.slots → MayStoreAhead me.0 slot way value →
      Allows (IsCells m digest layout) n id me (field_at layout Slots slot (note_field way)) (λ _. value) (λ _. StoresAhead way st me value)
  may_store_ahead st id n slot way value me seated within may s kept homes at bound = (
    record me.0 { turn = with_ahead (Some (record { field = note_field way; value = value })) me.0.turn },
    keeps,
    tt,
    led m digest layout s kept id me.0 at slot way value within seated may,
    record { is = refl },
  )
