-- A connection whose first note's epoch is two behind is reclaimed at the end of its slot's turn: nobody may speak of it.
use Rattle.std.specs.List.{Contains}
use Rattle.std.proofs.Common.{◌≡◌, ◌≢◌, ℕ, ◌+◌, ◌^◌, ◌<◌, ◌≤◌, eqb, eq-eqb, ne_eqb, Some, None, List, ◌∷◌, set, length, refl, sym, ap, ◌∙◌, subst, ⊎_elim, inl, inr, arith, length-set}
use Rattle.std.proofs.lemmas.Bool.{cases_eq}
use mathlib.Core.Option.{some}
use lib.ListN.{get_elem?}
use Rattle.atomic_table.{specs.Table.State, proofs.Lists.at_map}
use Rattle.npf_types.specs.declared.key.{Key.Key, Way.{Way, TheVariants.Forward}}
use Rattle.npf_core.specs.{declared.{conn_id.ConnId.ConnId, slot.Slot.Slot, stage.Stage.TheVariants.{Vacant, Dead}}, History.state_of}
use Rattle.npf_core.specs.{Machine.{Machine, HoldsNone, stage_of}, Meaning.Meaning}
use Rattle.npf_connections.specs.Pass.{all_places}
use Rattle.npf_cells_words.specs.{declared.layout.{Layout.Layout, Pool.TheVariants.Slots}, Layout.{turn_field, field_at}}
use Rattle.npf_seats.{specs.{Seats.Seats, Sums.occurs}, proofs.{ListLemmas.{one_where, occurs-cons}, PrefixLemmas.cons_cases, SumLemmas.{sum-set, side_same}}}
use Rattle.npf_cells_leaves.{specs.Trie.trie_words, proofs.TrieLemmas.{knows_same, trie_same}}
use Rattle.npf_cells_lives.specs.{declared.turn.Turn.Turn, Conns.entry_seat}
use Rattle.npf_cells_lives.specs.Deaths.{Rests, has_epoch, first_note, slots_named, reclaimed_in, cleared_in, freed_slot, slot_by, unreclaimed, last_id, FitsReclaim, Deaths}
use Rattle.npf_cells_lives.specs.{Pools.taken, Stored.FitsStored, Turns.{Homes, Running, running, stage_phase, Turns}}
use Rattle.npf_cells_lives.proofs.ConnLemmas.{builds-kept, unstored-set, conns-same}
use Rattle.npf_cells_lives.proofs.DeathLemmas.{same_dates, spares_all, epoch_note, last_stage, RestsNoMore, kill_kept, reclaim_kept, deaths-changed}
use Rattle.npf_cells_lives.proofs.{FreedLemmas.{gone_in, freed_stays, still_there, by_some}, LockLemmas.{locks-same, holders-set}, NoteLemmas.notes-set}
use Rattle.npf_cells_lives.proofs.{PoolLemmas.{pools-kept, taken-set}, StoredLemmas.{own_same, stored_kept}}
use Rattle.npf_cells_rule.specs.{declared.view.CellView.CellView, Cells.IsCells}
use Rattle.npf_cells_rule.{specs.Views.{seat_side, reader_view, lock_side, pool_side, trie_side, turn_side, death_side}, proofs.DeathFrames.known_apart}
use Rattle.npf_cells_rule.proofs.{DeathLawLemmas.rests_hold_back, Frames.{alone-set, alone_still, framed, epochs_apart}}
use Rattle.npf_cells_rule.proofs.{MarkFrames.{marks_on, meets_same, words_slot}, TurnFrames.{below, inc_else, lock_else, keeps_trie, stored_else, notes_stay}}
use Rattle.npf_cells_turns.{specs.EndKinds.{MayReclaim, with_reclaim}, proofs.{DeathEndLemmas.{same_epoch, same_notes}, EndLemmas.{turns_end, ahead_none}}}

module _ {S A R : Type 0} (m : Meaning S A R) (digest : Key → ℕ) (layout : Layout) (s : State (Running S) (CellView S A R)) (kept : IsCells m digest layout s)
    (id : ℕ) (v : CellView S A R) (turn : Turn S) (at : get_elem? s.views id ≡ some v) (has : v.turn ≡ Some turn) (quiet : turn.ahead ≡ None)
    (conn : ConnId) (may : MayReclaim v turn conn) where
  abbrev k : Machine S
  k = state_of m kept.log

  abbrev slot : ℕ
  slot = turn.slot

  abbrev ws : List ℕ
  ws = set s.words (field_at layout Slots slot turn_field) 0

  abbrev homes' : Homes S
  homes' = set s.homes slot (some (running {S = S} Vacant))

  abbrev pub reclaimer : CellView S A R
  reclaimer = record v { pools = with_reclaim conn v.pools; turn = None }

  exists : slot < layout.slots
  exists = (kept.turns.each id v turn at has).exists

  -- it is still as it was, Dead and nobody's
  there_still : (k.slot slot ≡ turn.was) × (gone_in death_side s.views slot ≡ 0)
  there_still = still_there death_side s.views k slot turn.was (kept.turns.each id v turn at has).stays (λ idle. absurd (let no : 2 ≡ 0 = sym (ap stage_phase may.dead) ∙ idle in cc))

  conn_last : last_id k slot ≡ conn
  conn_last = λ i. record { slot = sym may.there i; inc = (ap (λ (x : Slot S). x.inc) there_still.0 ∙ may.inc) i }

  is_dead_there : (k.slot slot).stage ≡ Dead
  is_dead_there = ap (λ (x : Slot S). x.stage) there_still.0 ∙ may.dead

  dead_conn : stage_of k conn ≡ Dead
  dead_conn = ap (stage_of k) (sym conn_last) ∙ (last_stage k slot ∙ is_dead_there)

  -- its note has the epoch that the pass loaded
  note_is : first_note layout s.words slot ≡ 2 ^ 63 + may.epoch
  note_is = kept.notes.said id v turn _ Forward at has may.left (inr (may.dead, epoch_note may.epoch)) refl

  -- nobody may speak of it
  nobody : (j : ℕ) (u : CellView S A R) → get_elem? s.views j ≡ some u → ¬ (Rests (death_side u) conn)
  nobody j u e rests =
      let back = rests_hold_back m layout digest s kept j slot may.epoch u exists e note_is (subst (Rests (death_side u)) (sym conn_last) rests) in
      let later = may.later in
      let loaded = (kept.epochs.each id (reader_view v) (at_map reader_view s.views id v at)).loaded in
      absurd (omega (arith, back, later, loaded))

  less : RestsNoMore k (death_side v) (death_side reclaimer)
  less = record { rests = λ i dead bare rests. (rests, refl) }

  gone_more : (p : ℕ) → reclaimed_in death_side (set s.views id reclaimer) p ≡ one_where (eqb conn.slot p) + reclaimed_in death_side s.views p
  gone_more p =
      let sums = sum-set (λ (u : CellView S A R). occurs p (slots_named u.pools.reclaims)) s.views id v reclaimer at in
      let more = occurs-cons p conn.slot (slots_named v.pools.reclaims) in
      omega (arith, sums, more)

  cleared_still : (p : ℕ) → cleared_in death_side (set s.views id reclaimer) p ≡ cleared_in death_side s.views p
  cleared_still p = let sums = sum-set (λ (u : CellView S A R). occurs p (slots_named u.pools.cleared)) s.views id v reclaimer at in omega (arith, sums)

  one_here : one_where (eqb conn.slot slot) ≡ 1
  one_here = ap one_where (eq-eqb conn.slot slot may.there)

  none_else : (p : ℕ) → p ≢ slot → one_where (eqb conn.slot p) ≡ 0
  none_else p ne = ap one_where (ne_eqb conn.slot p (λ e. ne (sym e ∙ may.there)))

  deaths_after : Deaths death_side layout k ws (set s.views id reclaimer)
  deaths_after = deaths-changed death_side layout k k s.words ws s.views id v reclaimer kept.deaths at (spares_all k) (same_epoch m digest layout s kept id v at slot exists) less
      (λ p h.
      let kills = sum-set (λ (u : CellView S A R). occurs p (slots_named u.pools.kills)) s.views id v reclaimer at in
      let note = ap has_epoch (same_notes m digest layout s kept id v at slot exists p h) in
      let clear = cleared_still p in
      let was = kept.deaths.counted p h in
      omega (arith, kills, note, clear, was))
      (λ p h.
      let more = gone_more p in
      let note = ap has_epoch (same_notes m digest layout s kept id v at slot exists p h) in
      let was = kept.deaths.reclaimed p h in
      ⊎_elim
      (λ (e : p ≡ slot).
      let one : one_where (eqb conn.slot p) ≡ 1 = ap (λ q. one_where (eqb conn.slot q)) e ∙ one_here in
      let none : gone_in death_side s.views p ≡ 0 = ap (gone_in death_side s.views) e ∙ there_still.1 in
      let epoch : has_epoch (first_note layout s.words p) ≡ 1 = ap (λ q. has_epoch (first_note layout s.words q)) e ∙ (ap has_epoch note_is ∙ epoch_note may.epoch) in
      omega (arith, more, note, one, none, epoch))
      (λ (ne : p ≢ slot). let none = none_else p ne in omega (arith, more, note, was, none))
      (cases_eq p slot))
      (λ i c. kill_kept death_side layout k k s.words ws s.views id v reclaimer kept.deaths at (spares_all k)
      (same_epoch m digest layout s kept id v at slot exists) less v.epochs.loaded i (kept.deaths.kills id v i at c))
      (λ i c. reclaim_kept death_side layout k k s.words ws s.views id v reclaimer kept.deaths at (spares_all k) (same_epoch m digest layout s kept id v at slot exists) less i (⊎_elim
      (λ (mine : Contains (conn ∷ v.pools.reclaims) i). ⊎_elim
      (λ (same : conn ≡ i). subst (FitsReclaim death_side k s.views) same fits_conn)
      (λ (c' : Contains v.pools.reclaims i). kept.deaths.reclaims id v i at (inl c'))
      (cons_cases conn i v.pools.reclaims mine))
      (λ (c' : Contains v.pools.cleared i). kept.deaths.reclaims id v i at (inr c'))
      c))
      (λ p epoch h note. inl (sym (same_notes m digest layout s kept id v at slot exists p h) ∙ note))
      (same_dates death_side layout k s.words ws s.views id v reclaimer kept.deaths at (same_epoch m digest layout s kept id v at slot exists) refl)
    where
      fits_conn : FitsReclaim death_side k s.views conn
      fits_conn = record {
        dead = dead_conn;
        keyless = subst (λ (i : ConnId). (way : Way) → HoldsNone k i way) conn_last (kept.deaths.left slot may.epoch exists note_is).keyless;
        unrested = nobody;
      }

  -- turns see the slot as freed from now on
  turns_after : turn.phase ≡ 0 → Turns turn_side layout (unreclaimed death_side (set s.views id reclaimer) k) ws homes' (set s.views id reclaimer)
  turns_after phase = turns_end m digest layout s kept id v turn at has (running {S = S} Vacant) quiet (unreclaimed death_side (set s.views id reclaimer) k) reclaimer refl
      (λ p ne. freed_stays death_side s.views (set s.views id reclaimer) k k p (let more = gone_more p in
      let clear = cleared_still p in let none = none_else p ne in omega (arith, more, clear, none)) (inl refl))
      (ap (λ (x : Slot S). running x.stage) (sym now_freed))
      (phase ∙ ap (λ (x : Slot S). stage_phase x.stage) (sym now_freed))
    where
      now_freed : slot_by (gone_in death_side (set s.views id reclaimer) slot) (k.slot slot) ≡ freed_slot (k.slot slot)
      now_freed = by_some (gone_in death_side (set s.views id reclaimer) slot) (k.slot slot) (λ none. absurd (let more = gone_more slot in let one = one_here in omega (arith, none, more, one)))

  pub reclaims : turn.phase ≡ 0 → 1 ≤ length v.seats.readers → IsCells m digest layout (record { words = ws; homes = homes'; views = set s.views id reclaimer })
  reclaims phase seated = framed m digest layout s (record { words = ws; homes = homes'; views = set s.views id reclaimer }) kept kept.published kept.log
      (length-set s.words (field_at layout Slots slot turn_field) 0)
      (subst (λ sides. Seats entry_seat layout.slots all_places kept.log sides) (sym (side_same seat_side s.views id v reclaimer at refl)) kept.seats)
      (epochs_apart m digest layout s (field_at layout Slots slot turn_field) 0 id v reclaimer kept at refl
      (λ j h. below m digest layout s kept slot turn_field 0 exists (inl refl) j (omega (arith, h))))
      (pools-kept layout (taken pool_side kept.published k s.views) (taken pool_side kept.published k (set s.views id reclaimer)) s.words ws kept.pools
      (length-set s.words (field_at layout Slots slot turn_field) 0)
      (below m digest layout s kept slot turn_field 0 exists (inl refl)) (taken-set pool_side kept.published k s.views id v reclaimer at refl refl))
      (trie_same trie_side digest layout kept.published k k s.words ws s.views id v reclaimer kept.trie at (knows_same v.trie)
      (keeps_trie m digest layout s kept slot turn_field 0 exists (inl refl) k (λ key. refl) (λ i c. c) (λ i e. e)))
      (conns-same pool_side m layout kept.log s.words ws s.views (set s.views id reclaimer) kept.connections
      (length-set s.words (field_at layout Slots slot turn_field) 0) (λ p h. inc_else m digest layout s kept slot turn_field 0 exists (inl refl) p)
      (builds-kept pool_side k s.views id v reclaimer at refl refl kept.connections.each) (unstored-set pool_side s.views id v reclaimer at refl))
      (stored_else m digest layout s kept slot turn_field 0 exists (inl refl) id reclaimer stored_on)
      (locks-same lock_side layout s.words ws s.views (set s.views id reclaimer) kept.locks
      (lock_else m digest layout s kept slot turn_field 0 exists (inl refl)) (holders-set lock_side layout s.views id v reclaimer at refl))
      (turns_after phase)
      deaths_after
      (known_apart m digest layout s id v reclaimer k kept at (λ i c. c) refl (spares_all k))
      (notes-set turn_side pool_side layout k k (trie_words layout s.words).cell (trie_words layout ws).cell s.words ws s.views id v reclaimer kept.notes at
      (ahead_none m digest layout s kept id v turn at has (running {S = S} Vacant) quiet) refl refl refl (λ i c. c)
      (notes_stay m digest layout s kept slot turn_field 0 exists (inl refl) k (λ key. refl) (λ p. inl refl)))
      (marks_on m digest layout s kept ws id v reclaimer at (words_slot layout kept.published s.words slot turn_field 0) (meets_same v.trie) refl (λ _. refl) refl)
      (alone-set s.views id reclaimer (alone_still v reclaimer (kept.alone id v at) seated refl (λ none. none)) kept.alone)
    where
      stored_on : FitsStored layout s.words reclaimer.pools
      stored_on = stored_kept layout s.words s.words v.pools reclaimer.pools (kept.stored id v at) refl (own_same layout v.pools reclaimer.pools refl refl) (λ pool place field own. refl)
