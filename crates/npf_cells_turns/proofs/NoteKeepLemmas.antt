-- A load of a note under its slot's turn keeps the rule: the pass knows what the note says.
use Rattle.std.specs.List.{Contains}
use Rattle.std.proofs.Common.{◌≡◌, ◌≢◌, ℕ, ◌<◌, ◌≤◌, Bool, true, false, cond, Option, Some, None, List, set, length, slice_index, refl, sym, ap, ◌∙◌, subst, ⊎_elim, inl, arith, length-set}
use Rattle.std.proofs.lemmas.List.{set-get_or}
use mathlib.Core.Option.{some}
use lib.ListN.{get_elem?}
use Rattle.atomic_table.{specs.Table.{State, Me, Step, Allows, stepped, keeps}, proofs.Lists.at_set}
use Rattle.npf_types.specs.declared.key.{Key.Key, Way.Way}
use Rattle.npf_core.specs.{declared.{conn_id.ConnId.ConnId, found.Found.Found}, History.state_of, Machine.{Machine, Holds, HoldsNone}, Meaning.Meaning}
use Rattle.npf_connections.specs.Pass.{all_places}
use Rattle.npf_paths.specs.{declared.{cell.Cell.TheVariants.Empty, place.Place.Place}, Paths.EndsAt}
use Rattle.npf_cells_words.specs.{declared.layout.{Layout.Layout, Pool.TheVariants.Slots}, Layout.{note_field, field_at}, MarkWords.shown_of}
use Rattle.npf_cells_words.{specs.Places.{IsInTrie, is_in_trie, place_at}, proofs.WordLemmas.{in_trie, same_note}}
use Rattle.npf_seats.{specs.Seats.Seats, proofs.SumLemmas.side_same}
use Rattle.npf_cells_leaves.{specs.Trie.{digits_of, holder_at, trie_words}, proofs.TrieLemmas.knows_same}
use Rattle.npf_cells_lives.specs.{declared.{pools.Note.Note, turn.{Ahead.Ahead, Said.Said, Turn.Turn}}, Conns.entry_seat, Deaths.{unreclaimed, last_id}}
use Rattle.npf_cells_lives.specs.{Notes.{note_word, IsAheadOf, NobodyAhead, with_said, FitsAhead, FitsNote, Notes}, Pools.taken}
use Rattle.npf_cells_lives.{specs.Turns.{Running, has_turn, FitsTurn, Turns}, proofs.{DeathLemmas.{dead_at, spares_all}, FreedLemmas.freed_stays}}
use Rattle.npf_cells_lives.proofs.{NoteLemmas.{IsGiven, IsToldSo, given_same, nobody_before, notes_so}, PoolLemmas.{pools-same, taken-set}}
use Rattle.npf_cells_lives.proofs.TurnLemmas.{turns-like}
use Rattle.npf_cells_rule.specs.{declared.view.CellView.CellView, Cells.IsCells, Views.{seat_side, pool_side, turn_side, death_side}}
use Rattle.npf_cells_rule.proofs.DeathFrames.{deaths_load, known_apart, gone_same}
use Rattle.npf_cells_rule.proofs.Frames.{alone-set, alone_still, framed, epochs_apart, trie_apart, conns_apart, stored_apart, locks_apart}
use Rattle.npf_cells_rule.{proofs.{MarkFrames.{marks_on, meets_same, words_loaded}, NoteFrames.notes_behind}, specs.NoteLaw.NamesEnd}
use Rattle.npf_cells_rule.proofs.{NoteLawLemmas.{code_above, names_end}, StoodLemmas.stood_so}
use Rattle.npf_cells_turns.specs.{NoteKinds.{NamesPlace, ShowsKill, LoadsNote}, TurnKinds.HasSlotTurn}
use Rattle.npf_cells_turns.proofs.WordKeepLemmas.{own_alone, shows_by_turn, shows_note}

-- who remembers what a note said has the same turn otherwise
said_turn : {S : Type 0} (said : Option Said) (turn : Option (Turn S)) (slot : ℕ) → has_turn slot (with_said said turn) ≡ has_turn slot turn
said_turn said None slot = refl
said_turn said (Some turn) slot = refl

module _ {S A R : Type 0} (m : Meaning S A R) (digest : Key → ℕ) (layout : Layout) where
  module _ (s : State (Running S) (CellView S A R)) (kept : IsCells m digest layout s) (id : ℕ) (v : CellView S A R) (at : get_elem? s.views id ≡ some v)
      (seated : 1 ≤ length v.seats.readers) (turn : Turn S) (has : v.turn ≡ Some turn) (way : Way) where
    abbrev k : Machine S
    k = state_of m kept.log

    abbrev word : ℕ
    word = field_at layout Slots turn.slot (note_field way)

    abbrev found : ℕ
    found = slice_index s.words word

    abbrev ws : List ℕ
    ws = set s.words word found

    abbrev heard : Said
    heard = record { field = note_field way; value = found }

    abbrev turn' : Turn S
    turn' = record turn { said = Some heard }

    abbrev pub teller : CellView S A R
    teller = record v { turn = with_said (Some heard) v.turn }

    has' : teller.turn ≡ Some turn'
    has' = ap (with_said (Some heard)) has

    same : (j : ℕ) → slice_index ws j ≡ slice_index s.words j
    same j = ap (λ xs. slice_index xs j) (set-get_or s.words word 0)

    turns_after : Turns turn_side layout (unreclaimed death_side (set s.views id teller) k) ws s.homes (set s.views id teller)
    turns_after = turns-like turn_side layout (unreclaimed death_side s.views k)
        (unreclaimed death_side (set s.views id teller) k) s.words ws s.homes s.views id v teller kept.turns at (said_turn (Some heard) v.turn)
        (λ t is.
        let one : turn' ≡ t = (let e : Some turn' ≡ Some t = sym has' ∙ is in cc) in
        let fits = kept.turns.each id v turn at has in
        subst (FitsTurn layout (unreclaimed death_side s.views k) s.words) one (record { exists = fits.exists; phase = fits.phase; stays = fits.stays }))
        (record {
          turn = λ p h. same (field_at layout Slots p 0);
          phase = λ p h. same (field_at layout Slots p 2);
          slots = λ p. freed_stays death_side s.views (set s.views id teller) k k p (gone_same m digest layout s.views id v teller at refl p) (inl refl);
        })

    notes_after : Notes turn_side pool_side layout (trie_words layout ws).cell k ws (set s.views id teller)
    notes_after = notes_so turn_side pool_side layout k k (trie_words layout s.words).cell (trie_words layout ws).cell s.words ws s.views (set s.views id teller) kept.notes
        (notes_behind layout k k s.words ws (λ j h. same j) (λ key. refl) (λ p. inl refl))
        (λ p field none. nobody_before turn_side s.views id v teller p field at (ahead_on p field) none)
        both aheads each
      where
        ahead_on : (p field : ℕ) → IsAheadOf v.turn p field → IsAheadOf teller.turn p field
        ahead_on p field a =
            let one : turn ≡ a.mine = (let e : Some turn ≡ Some a.mine = sym has ∙ a.has in cc) in
            record { mine = turn'; has = has'; there = ap (λ (t : Turn S). t.slot) one ∙ a.there; note = a.note; ahead = ap (λ (t : Turn S). t.ahead) one ∙ a.ahead; field_is = a.field_is }

        told : IsToldSo turn_side pool_side layout k s.words teller
        told t said w is e firm field =
            let one : turn' ≡ t = (let d : Some turn' ≡ Some t = sym has' ∙ is in cc) in
            let what : heard ≡ said = (let d : Some heard ≡ Some said = ap (λ (y : Turn S). y.said) one ∙ e in cc) in
            let ways : way ≡ w = same_note way w (ap (λ (y : Said). y.field) what ∙ field) in
            (λ i. note_word layout s.words (ap (λ (y : Turn S). y.slot) (sym one) i) (sym ways i)) ∙ ap (λ (y : Said). y.value) what

        both : (j : ℕ) (u : CellView S A R) → get_elem? (set s.views id teller) j ≡ some u → IsGiven turn_side pool_side layout k s.words u × IsToldSo turn_side pool_side layout k s.words u
        both j u e = ⊎_elim
            (λ (x : (j ≡ id) × (teller ≡ u)). subst (λ (y : CellView S A R). IsGiven turn_side pool_side layout k s.words y × IsToldSo turn_side pool_side layout k s.words y) x.1
            (given_same turn_side pool_side layout k s.words v teller refl refl (λ i w c not none. kept.notes.given id v i w at c not none), told))
            (λ (x : (j ≢ id) × (get_elem? s.views j ≡ some u)). (
              λ i w c not none. kept.notes.given j u i w x.1 c not none,
              λ t said w is e firm field. kept.notes.said j u t said w x.1 is e firm field,
            ))
            (at_set s.views id j teller u e)

        aheads : (j : ℕ) (u : CellView S A R) (t : Turn S) (note : Ahead) → get_elem? (set s.views id teller) j ≡ some u →
            u.turn ≡ Some t → t.ahead ≡ Some note → FitsAhead layout k s.words t.slot note
        aheads j u t note e is ahead = ⊎_elim
            (λ (x : (j ≡ id) × (teller ≡ u)).
            let one : turn' ≡ t = (let d : Some turn' ≡ Some t = sym has' ∙ (ap (λ (y : CellView S A R). y.turn) x.1 ∙ is) in cc) in
            subst (λ (y : Turn S). FitsAhead layout k s.words y.slot note) one (kept.notes.ahead id v turn note at has (ap (λ (y : Turn S). y.ahead) one ∙ ahead)))
            (λ (x : (j ≢ id) × (get_elem? s.views j ≡ some u)). kept.notes.ahead j u t note x.1 is ahead)
            (at_set s.views id j teller u e)

        each : (j : ℕ) (u : CellView S A R) (note : Note) → get_elem? (set s.views id teller) j ≡ some u → Contains u.pools.notes note → FitsNote layout k s.words u.pools.builds note
        each j u note e c = ⊎_elim
            (λ (x : (j ≡ id) × (teller ≡ u)). subst (λ (y : CellView S A R). FitsNote layout k s.words y.pools.builds note) x.1
            (kept.notes.each id v note at (subst (λ (y : CellView S A R). Contains y.pools.notes note) (sym x.1) c)))
            (λ (x : (j ≢ id) × (get_elem? s.views j ≡ some u)). kept.notes.each j u note x.1 c)
            (at_set s.views id j teller u e)

    pub tells : (c : List (ℕ × Running S)) → IsCells m digest layout (stepped s word found id c teller keeps)
    tells c = framed m digest layout s (stepped s word found id c teller keeps) kept kept.published kept.log (length-set s.words word found)
        (subst (λ sides. Seats entry_seat layout.slots all_places kept.log sides) (sym (side_same seat_side s.views id v teller at refl)) kept.seats)
        (epochs_apart m digest layout s word found id v teller kept at refl (λ j h. same j))
        (pools-same layout (taken pool_side kept.published k s.views) (taken pool_side kept.published k (set s.views id teller)) s.words ws kept.pools
        (length-set s.words word found) (λ j h. same j) (taken-set pool_side kept.published k s.views id v teller at refl refl))
        (trie_apart m digest layout s word found id v teller kept at (knows_same v.trie) (λ j h. same j))
        (conns_apart m digest layout s word found id v teller kept at refl refl (λ j h. same j))
        (stored_apart m digest layout s word found id teller kept (kept.stored id v at) (λ j h. same j))
        (locks_apart m digest layout s word found id v teller kept at refl (λ j h. same j))
        turns_after
        (deaths_load m digest layout s word id v teller kept at refl refl (record { rests = λ i dead bare rests. (rests, refl) }))
        (known_apart m digest layout s id v teller k kept at (λ i x. x) refl (spares_all k))
        notes_after
        (marks_on m digest layout s kept ws id v teller at (words_loaded layout kept.published s.words word) (meets_same v.trie) refl (λ _. refl) refl)
        (alone-set s.views id teller (alone_still v teller (kept.alone id v at) seated refl (λ none. none)) kept.alone)

    -- of a kill the note says whether a key is held
    pub shows_kill : ShowsKill m layout v turn.slot way found
    shows_kill t conn is there settled killed slots not = record { dead = (kept.known id v conn at killed).dead; zero = (zero, given); named = λ some'. names some'.0 some'.1 }
      where
        last : conn ≡ last_id k turn.slot
        last = λ i. record { slot = slots i; inc = (sym (dead_at (k.slot conn.slot) conn.inc (kept.deaths.kills id v conn at killed).dead).0 ∙ ap (λ p. (k.slot p).inc) slots) i }

        nobody : NobodyAhead turn_side s.views turn.slot (note_field way)
        nobody = own_alone m digest layout s id v t kept at is settled turn.slot (note_field way) there

        ends_there : (key : Key) → Holds (state_of m v.seats.history) conn way key → NamesEnd digest layout s.words key found
        ends_there key held = names_end m layout digest s kept turn.slot way key nobody (subst (λ (i : ConnId). Holds k i way key) last ((kept.known id v conn at killed).held way key held))

        zero : found ≡ 0 → HoldsNone (state_of m v.seats.history) conn way
        zero none key held =
            let end = ends_there key held in
            let some' = code_above end.place in
            let names = end.names in
            absurd (omega (arith, none, names, some'))

        -- a key's path ends in a place that the table has, where its leaf stands
        within : (key : Key) (level : ℕ) (p : Place) → Holds k conn way key → EndsAt (digits_of digest key) (trie_words layout s.words).cell level p → IsInTrie layout p
        within key level p holds end = by_place (is_in_trie layout p) refl
          where
            by_place : (b : Bool) → is_in_trie layout p ≡ b → IsInTrie layout p
            by_place true is = in_trie layout p is
            by_place false is =
                let blank : (trie_words layout s.words).cell p ≡ Empty = ap (λ b. cond b (shown_of (slice_index s.words (place_at layout p))) Empty) is in
                let asked : Found = record { id = conn; way = way } in
                let no : None ≡ Some asked = sym (kept.trie.ends key level p end ∙ ap (λ c. holder_at (trie_words layout s.words) c key) blank) ∙ holds in
                absurd cc

        names : (key : Key) → Holds (state_of m v.seats.history) conn way key → NamesPlace layout found
        names key held = (let end = ends_there key held in
            record { place = end.place; within = within key end.level end.place ((kept.known id v conn at killed).held way key held) end.ends; names = end.names })

        given : HoldsNone (state_of m v.seats.history) conn way → found ≡ 0
        given none = ap (λ p. note_word layout s.words p way) (sym slots) ∙ kept.notes.given id v conn way at killed not (λ key holds. none key ((kept.known id v conn at killed).back way key holds))

  pub may_load_note : (st : Step (Running S)) (id n slot : ℕ) (way : Way) (me : Me (Running S) (CellView S A R)) →
      me.0.seats.lives ≡ true → 1 ≤ length me.0.seats.readers → slot < layout.slots → HasSlotTurn me.0 slot →
      Allows (IsCells m digest layout) n id me (field_at layout Slots slot (note_field way)) (λ x. x) (LoadsNote m digest layout slot way st me)
  may_load_note st id n slot way me lives seated within turn =
      subst (λ p. Allows (IsCells m digest layout) n id me (field_at layout Slots p (note_field way)) (λ x. x) (LoadsNote m digest layout p way st me)) turn.there
      (λ s kept homes at bound. (
        teller s kept id me.0 at seated turn.turn turn.has way,
        keeps,
        tt,
        tells s kept id me.0 at seated turn.turn turn.has way me.1,
        record {
          is = refl;
          noted = shows_note m digest layout s id me.0 kept at Slots turn.turn.slot (note_field way);
          by_turn = shows_by_turn m digest layout s id me.0 kept at lives Slots turn.turn.slot (note_field way);
          by_kill = shows_kill s kept id me.0 at seated turn.turn turn.has way;
          stood = stood_so m digest layout s id me.0 (field_at layout Slots turn.turn.slot (note_field way)) (field_at layout Slots turn.turn.slot (note_field way)) kept at lives refl;
        },
      ))
