-- A slot that is given back keeps the rule, and makes the Free of its connection.
use Rattle.std.specs.{Int.{bit_at, bit_not, w64}, List.Contains}
use Rattle.std.proofs.Common.{◌≡◌, ◌≢◌, ◌+◌, ℕ, true, ◌*◌, ◌%◌, ◌^◌, ◌<◌, ◌≤◌, Some, [], ◌∷◌, ◌++◌, List, map, set, length, slice_index}
use Rattle.std.proofs.{Common.{refl, sym, ap, ◌∙◌, subst, ⊎_elim, inl, inr, arith, bit_and, length-set}, lemmas.{Bool.cases_eq, List.map-set}}
use Rattle.std.proofs.lemmas.Nat.Bits.{bit_at_clear_same, bit_at_clear_other}
use mathlib.Core.Option.{some}
use lib.ListN.{get_elem?}
use Rattle.atomic_table.{specs.Table.{State, Me, Step, Allows, stepped, keeps}, proofs.Lists.{at_map, at_set}}
use Rattle.npf_types.specs.declared.key.Key.{Key}
use Rattle.npf_core.specs.declared.{act.Act.TheVariants.Free, conn_id.ConnId.ConnId, entry.Entry.Entry, reply.Reply.TheVariants.Nothing, slot.Slot.Slot}
use Rattle.npf_core.specs.{declared.stage.Stage.TheVariants.Building, History.{MayFollow, Legal, state_of}, Machine.{Machine, stage_of, IsClaimed}}
use Rattle.npf_core.{specs.Meaning.Meaning, proofs.HistoryLemmas.{state_of-append, Legal-append}}
use Rattle.npf_connections.specs.{Adding.AddsOwn, Pass.all_places}
use Rattle.npf_cells_words.specs.declared.layout.{Layout.Layout, Pool.{Pool, TheVariants.{Slots, Nodes}}}
use Rattle.npf_cells_words.specs.{Layout.{turn_field, phase_field, inc_field, notes_field, note_field, field_at, place_word}, Places.place_at}
use Rattle.npf_cells_words.proofs.WordLemmas.{field_behind, place_behind}
use Rattle.npf_seats.{specs.Seats.{FitsSeats, Seats}, proofs.{SeatLemmas.seats-adds, SumLemmas.set_there}}
use Rattle.npf_cells_leaves.{specs.Trie.{FitsTrie, Trie, trie_words}, proofs.TrieLemmas.{knows_same, trie_same, cell_same, keeps_words}}
use Rattle.npf_cells_lives.specs.{Conns.{Conns, inc_word, unstored_by, entry_seat}, Deaths.{Rests, FitsReclaim, unreclaimed, Deaths}, Known.{FitsKnown, Known}}
use Rattle.npf_cells_lives.specs.{Notes.Notes, Pools.{claim_bit, taken, Pools}, Turns.{Running, StaysAt, stage_phase, Turns}}
use Rattle.npf_cells_lives.proofs.{ConnLemmas.{BuildsIn, unstored-set}, FreedLemmas.{gone_in, by_none, by_some, freed_stays}}
use Rattle.npf_cells_lives.proofs.{KnownLemmas.{known_now, known-set}, NoteLemmas.{same_ahead, notes-acted}, PoolLemmas.{pools-set, taken-set}}
use Rattle.npf_cells_lives.proofs.{StoredLemmas.{own_same, stored_kept}, TurnLemmas.turns-kept}
use Rattle.npf_cells_rule.specs.{declared.view.CellView.CellView, Cells.IsCells, Passes.cell_pass}
use Rattle.npf_cells_rule.specs.Views.{seat_side, pool_side, trie_side, turn_side, leaf_id, death_side, seen_side}
use Rattle.npf_cells_rule.proofs.EntryLemmas.{adds_entry, sole_entries}
use Rattle.npf_cells_rule.proofs.Frames.{alone-set, alone_still, IsPoolStep, framed, stored_apart, locks_apart, epochs_apart}
use Rattle.npf_cells_rule.proofs.{MarkFrames.{marks_on, meets_same, words_behind}, StoodLemmas.stood_so}
use Rattle.npf_cells_takes.specs.SlotKinds.{MayGiveBack, freeing, HasFreed, FreesSlot}
use Rattle.npf_cells_takes.proofs.FreeLemmas.{freed, freed_here, freed_else, same_inc, still_claimed, still_dead, builds_freed, gone_here, gone_else, deaths_freed}
use Rattle.npf_cells_takes.proofs.PoolKeepLemmas.{pool_step}

module _ {S A R : Type 0} (m : Meaning S A R) (digest : Key → ℕ) (layout : Layout) where
  module _ (s : State (Running S) (CellView S A R)) (id : ℕ) (me : Me (Running S) (CellView S A R)) (kept : IsCells m digest layout s) (at : get_elem? s.views id ≡ some me.0)
      (lives : me.0.seats.lives ≡ true) (place : 1 ≤ length me.0.seats.readers) (conn : ConnId) (within : conn.slot < layout.slots) (may : MayGiveBack me.0 conn) where
    abbrev word : ℕ
    word = place_word layout Slots conn.slot

    abbrev found : ℕ
    found = slice_index s.words word

    abbrev k : Machine S
    k = state_of m kept.log

    abbrev k' : Machine S
    k' = freed m k id conn

    abbrev entry : Entry S A R
    entry = record { seat = id; act = Free conn; reply = Nothing }

    abbrev log' : List (Entry S A R)
    log' = kept.log ++ entry ∷ []

    abbrev w : CellView S A R
    w = freeing me.0 found log' conn

    abbrev views' : List (CellView S A R)
    views' = set s.views id w

    state : state_of m log' ≡ k'
    state = state_of-append m kept.log entry

    gone : FitsReclaim death_side k s.views conn
    gone = kept.deaths.reclaims id me.0 conn at (inr may.cleared)

    -- it is Dead, holds no key and has a next incarnation, so the Free may follow
    follows : MayFollow m layout.slots k entry
    follows = record { allowed = record { killed = gone.dead; none = gone.keyless; further = may.further }; replied = refl }

    unrested : (j : ℕ) (u : CellView S A R) → get_elem? views' j ≡ some u → Rests (death_side u) conn → ⊥
    unrested j u e rests = ⊎_elim
        (λ (x : (j ≡ id) × (w ≡ u)). gone.unrested id me.0 at (subst (λ (y : CellView S A R). Rests (death_side y) conn) (sym x.1) rests))
        (λ (x : (j ≢ id) × (get_elem? s.views j ≡ some u)). gone.unrested j u x.1 rests)
        (at_set s.views id j w u e)

    builds : BuildsIn pool_side k' views'
    builds = builds_freed m k id conn gone.dead pool_side s.views id me.0 w at refl refl kept.connections.each

    taken_else : (pool : Pool) (p : ℕ) → (pool ≡ Slots → p ≢ conn.slot) → taken pool_side kept.published k' views' pool p ≡ taken pool_side kept.published k s.views pool p
    taken_else Slots p two = ap (λ (x : Slot S). claim_bit x.stage) (freed_else m k id conn p (two refl))
    taken_else Nodes p two = taken-set pool_side kept.published k s.views id me.0 w at refl refl Nodes p

    -- the word's bit is cleared
    module _ (n : ℕ) (here : bit_at n (conn.slot % 64) ≡ 0) (bits : (i : ℕ) → i < 64 → i ≢ conn.slot % 64 → bit_at n i ≡ bit_at found i) where
      abbrev ws : List ℕ
      ws = set s.words word n

      step : IsPoolStep layout s.words word n
      step = pool_step layout s.words Slots conn.slot n within

      pools : Pools layout (taken pool_side kept.published k' views') ws
      pools = pools-set layout (taken pool_side kept.published k s.views) (taken pool_side kept.published k' views') s.words Slots conn.slot n kept.pools within
          (here ∙ sym (ap (λ (x : Slot S). claim_bit x.stage) (freed_here m k id conn conn.slot refl))) bits taken_else

      -- the words of the trie and the holders are the same, and nobody speaks of the connection
      as_before : Trie trie_side digest layout kept.published k ws views'
      as_before = trie_same trie_side digest layout kept.published k k s.words ws s.views id me.0 w kept.trie at
          (knows_same me.0.trie) (keeps_words layout k k s.words ws (λ key. refl) (λ i c. c) (λ i e. e) step.behind)

      fits_trie : (j : ℕ) (u : CellView S A R) → get_elem? views' j ≡ some u → FitsTrie digest layout.slots k' (trie_words layout ws) u.trie
      fits_trie j u e =
          let was = as_before.each j u e in
          record {
            stands = was.stands;
            leaf = λ leaf is. (let old = was.leaf leaf is in record {
              right = ⊎_elim
                  (λ right. inl right)
                  (λ dead. inr (still_dead m k id conn gone.dead (record { slot = leaf.slot; inc = leaf.inc }) (λ same. unrested j u e (inr (ap leaf_id is ∙ ap Some same))) dead))
                  old.right;
              key = old.key;
              inc = old.inc;
            });
            seen = was.seen;
            claimed = λ i c. still_claimed m k id conn gone.dead i (λ same. unrested j u e (inl (subst (λ (x : ConnId). Contains u.trie.answered x) same c))) (was.claimed i c);
          }

      trie : Trie trie_side digest layout kept.published k' ws views'
      trie = record {
        ends = as_before.ends;
        leaves = as_before.leaves;
        nodes = as_before.nodes;
        homes = as_before.homes;
        levels = as_before.levels;
        parents = as_before.parents;
        hang = as_before.hang;
        counted = as_before.counted;
        each = fits_trie;
      }

      connections : Conns pool_side m layout log' ws views'
      connections = record {
        reach = length-set s.words word n ∙ kept.connections.reach;
        legal = Legal-append m layout.slots kept.log entry kept.connections.legal follows;
        each = subst (λ x. BuildsIn pool_side x views') (sym state) builds;
        incs = λ p h. ap (λ x. x + unstored_by pool_side views' p) (step.behind (field_at layout Slots p inc_field) (field_behind layout Slots p inc_field))
            ∙ (ap (λ x. inc_word layout s.words p + x) (unstored-set pool_side s.views id me.0 w at refl p)
            ∙ (kept.connections.incs p h ∙ (sym (same_inc m k id conn p) ∙ ap (λ (x : Machine S). (x.slot p).inc) (sym state))));
      }

      deaths : Deaths death_side layout k' ws views'
      deaths = deaths_freed death_side layout m k id conn s.words ws s.views id me.0 w kept.deaths at within may.cleared refl (step.before 0 (omega arith))
          (λ p h. step.behind (field_at layout Slots p notes_field) (field_behind layout Slots p notes_field))

      -- for turns the slot was free before
      stays_at : (p : ℕ) → StaysAt ((unreclaimed death_side s.views k).slot p) ((unreclaimed death_side views' k').slot p)
      stays_at p = ⊎_elim
          (λ (e : p ≡ conn.slot).
          let counts = gone_here death_side layout m k id conn s.words ws s.views id me.0 w kept.deaths at within may.cleared refl (step.before 0 (omega arith))
          (λ q h. step.behind (field_at layout Slots q notes_field) (field_behind layout Slots q notes_field)) p e in
          let some' : gone_in death_side s.views p ≢ 0 = (λ none. let one = counts.0 in omega (arith, one, none)) in
          inl (by_none (gone_in death_side views' p) (k'.slot p) counts.1 ∙ (freed_here m k id conn p e ∙ sym (by_some (gone_in death_side s.views p) (k.slot p) some'))))
          (λ (ne : p ≢ conn.slot).
          freed_stays death_side s.views views' k k' p
          (gone_else death_side layout m k id conn s.words ws s.views id me.0 w kept.deaths at within may.cleared refl (step.before 0 (omega arith))
          (λ q h. step.behind (field_at layout Slots q notes_field) (field_behind layout Slots q notes_field)) p ne)
          (inl (freed_else m k id conn p ne)))
          (cases_eq p conn.slot)

      turns : Turns turn_side layout (unreclaimed death_side views' k') ws s.homes views'
      turns = turns-kept turn_side layout (unreclaimed death_side s.views k) (unreclaimed death_side views' k') s.words ws s.homes s.views id me.0 w kept.turns at refl (record {
        turn = λ p h. step.behind (field_at layout Slots p turn_field) (field_behind layout Slots p turn_field);
        phase = λ p h. step.behind (field_at layout Slots p phase_field) (field_behind layout Slots p phase_field);
        slots = stays_at;
      })

      known : Known (seen_side m) pool_side k' views'
      known = known-set (seen_side m) pool_side k k' s.views id w kept.known (λ j u i ne e c way key holds. holds) (λ j u i ne e c way key holds. holds)
          (λ i c. subst (λ x. FitsKnown x k' i) (sym state) (known_now k' i (deaths.kills id w i (set_there s.views id me.0 w at) c).dead))

      notes : Notes turn_side pool_side layout (trie_words layout ws).cell k' ws views'
      notes = notes-acted turn_side pool_side layout k k' (trie_words layout s.words).cell
          (trie_words layout ws).cell s.words ws s.views id me.0 w conn.slot kept.notes at (same_ahead me.0.turn w.turn refl)
          (λ i way c not none. kept.notes.given id me.0 i way at c not none) (λ turn said way has is firm field.
          kept.notes.said id me.0 turn said way at has is firm field) (λ note c. kept.notes.each id me.0 note at c)
          (λ digits are level p on. cell_same layout s.words ws p (step.behind (place_at layout p) (place_behind layout p)))
          (λ p way. step.behind (field_at layout Slots p (note_field way)) (field_behind layout Slots p (note_field way)))
          (λ key. refl) (λ p ne. freed_else m k id conn p ne)
          (λ live way none. absurd (let no : 0 ≡ 1 = sym (ap (λ (x : Slot S). stage_phase x.stage) (freed_here m k id conn conn.slot refl)) ∙ live in cc))

      pub frees : IsCells m digest layout (stepped s word n id me.1 w keeps)
      frees = framed m digest layout s (stepped s word n id me.1 w keeps) kept kept.published log' (length-set s.words word n)
          (subst (λ sides. Seats entry_seat layout.slots all_places log' sides) (sym (map-set seat_side s.views id w))
          (seats-adds entry_seat layout.slots all_places kept.log (map seat_side s.views) id me.0.seats kept.seats (at_map seat_side s.views id me.0 at) lives place entry refl))
          (epochs_apart m digest layout s word n id me.0 w kept at refl step.before)
          (subst (λ x. Pools layout (taken pool_side kept.published x views') ws) (sym state) pools)
          (subst (λ x. Trie trie_side digest layout kept.published x ws views') (sym state) trie)
          connections
          (stored_apart m digest layout s word n id w kept (stored_kept layout s.words s.words me.0.pools w.pools
          (kept.stored id me.0 at) refl (own_same layout me.0.pools w.pools refl refl) (λ pool p field own. refl)) step.behind)
          (locks_apart m digest layout s word n id me.0 w kept at refl step.behind)
          (subst (λ x. Turns turn_side layout (unreclaimed death_side views' x) ws s.homes views') (sym state) turns)
          (subst (λ x. Deaths death_side layout x ws views') (sym state) deaths)
          (subst (λ x. Known (seen_side m) pool_side x views') (sym state) known)
          (subst (λ x. Notes turn_side pool_side layout (trie_words layout ws).cell x ws views') (sym state) notes)
          (marks_on m digest layout s kept ws id me.0 w at (words_behind layout kept.published s.words ws (let same = step.before 0 (omega arith) in
          omega (arith, same)) step.behind) (meets_same me.0.trie) refl (λ _. refl) refl)
          (alone-set s.views id w (alone_still me.0 w (kept.alone id me.0 at) place refl (λ none. none)) kept.alone)

      -- the Free ends what the pass has then seen
      pub has_freed : me.0.seats.theirs ≡ [] → HasFreed m conn found me (w, me.1)
      has_freed settled = record {
        adds = subst (AddsOwn (cell_pass me.0) log') (ap (λ x. record entry { seat = x } ∷ []) (sym number))
            (adds_entry layout.slots kept.log (map seat_side s.views) id me.0 kept.seats there lives place entry refl);
        legal = λ pass. record {
          legal = subst (λ slots. Legal m slots log') (sym (fits.sized place)) connections.legal;
          stays = λ i c. subst (λ (x : Machine S). IsClaimed (stage_of x i)) (sym state) ((fits_trie id w (set_there s.views id me.0 w at)).claimed i c);
          building = λ i c. ap (λ (x : Machine S). stage_of x i) state ∙ ((builds id w (set_there s.views id me.0 w at)).building i c ∙ ap (λ x. Building x) (sym number));
          unanswered = pass.unanswered;
          idle = pass.idle;
          alone = sole_entries layout.slots kept.log (map seat_side s.views) id me.0 kept.seats there lives place entry refl settled;
          most = pass.most;
        };
        is = refl;
      }
        where
          there : get_elem? (map seat_side s.views) id ≡ some me.0.seats
          there = at_map seat_side s.views id me.0 at

          fits : FitsSeats entry_seat layout.slots (map seat_side s.views) kept.log id me.0.seats
          fits = kept.seats.each id me.0.seats there

          number : me.0.seats.number ≡ id
          number = (fits.lives lives).number

  pub may_free_slot : (st : Step (Running S)) (id n mask : ℕ) (conn : ConnId) (me : Me (Running S) (CellView S A R)) → me.0.seats.lives ≡ true →
      me.0.seats.theirs ≡ [] → 1 ≤ length me.0.seats.readers → conn.slot < layout.slots → MayGiveBack me.0 conn → mask ≡ bit_not w64 (1 * 2 ^ (conn.slot % 64) % 2 ^ 64) →
      Allows (IsCells m digest layout) n id me (place_word layout Slots conn.slot) (λ k. bit_and k mask) (FreesSlot m digest layout conn st me)
  may_free_slot st id n mask conn me lives settled place within may is s kept homes at bound = rw is (
    w s id me kept at lives place conn within may,
    keeps,
    tt,
    frees s id me kept at lives place conn within may after' here else',
    record {
      freed = has_freed s id me kept at lives place conn within may after' here else' settled;
      stood = stood_so m digest layout s id me.0 (place_word layout Slots conn.slot) (place_word layout Slots conn.slot) kept at lives refl;
    },
  )
    where
      number : ℕ
      number = slice_index s.words (place_word layout Slots conn.slot)

      after' : ℕ
      after' = bit_and number (bit_not w64 (1 * 2 ^ (conn.slot % 64) % 2 ^ 64))

      here : bit_at after' (conn.slot % 64) ≡ 0
      here = bit_at_clear_same w64 number (conn.slot % 64) (omega arith)

      else' : (i : ℕ) → i < 64 → i ≢ conn.slot % 64 → bit_at after' i ≡ bit_at number i
      else' i h ne = bit_at_clear_other w64 number (conn.slot % 64) (omega arith) i h ne
