-- Kind 18 keeps the rule, and gives a key of a killed connection up.
use Rattle.std.specs.List.{Contains}
use Rattle.std.proofs.Common.{◌≡◌, ◌≢◌, ℕ, ◌+◌, ◌<◌, ◌≤◌, true, Some, None, List, [], ◌∷◌, ◌++◌, map, set, length, slice_index, refl, sym, ap, ◌∙◌, subst, ⊎_elim, inl, arith, length-set}
use Rattle.std.proofs.lemmas.{Bool.cases_eq, List.{map-set, get_or-set_other, get_or-set_same}}
use mathlib.Core.Option.{some}
use lib.ListN.{get_elem?}
use Rattle.atomic_table.{specs.Table.{State, Me, Step, Allows, stepped, keeps}, proofs.Lists.at_map}
use Rattle.npf_types.specs.declared.key.{Key.Key, Way.Way}
use Rattle.npf_core.specs.declared.{act.Act.TheVariants.Unhold, conn_id.ConnId.ConnId, entry.Entry.Entry, found.Found.Found, reply.Reply.TheVariants.Nothing}
use Rattle.npf_core.specs.{declared.stage.Stage.TheVariants.{Building, Dead}, History.{MayFollow, Legal, after, state_of}}
use Rattle.npf_core.{specs.{Machine.{Machine, stage_of, Holds, HoldsSome, IsClaimed}, Meaning.Meaning}, proofs.HistoryLemmas.{state_of-append, Legal-append}}
use Rattle.npf_connections.specs.{Adding.AddsOwn, Pass.all_places}
use Rattle.npf_paths.specs.{declared.{cell.Cell.TheVariants.{Empty, Leaf}, place.Place.Place}, Paths.{AreDigits, IsOnPath, IsEnd, IsOnPath.{at_root, further}}}
use Rattle.npf_paths.specs.declared.place.Place.TheVariants as Places
use Rattle.npf_paths.{specs.Places.lock_of, proofs.FillingLemmas.{filled_back, filled_places}}
use Rattle.npf_cells_words.specs.{declared.{layout.Layout.Layout, mark.Marked.Marked}, Codes.place_code}
use Rattle.npf_cells_words.specs.{Layout.{epoch_word, reader_word, root_at, turn_field, phase_field, notes_field, note_field}, MarkWords.{shown_of, IsMarkOf}}
use Rattle.npf_cells_words.{specs.{declared.mark.Emptied.Emptied, Places.{IsInTrie, IsPlaceIn, place_at}}, proofs.CodeLemmas.codes_are_apart}
use Rattle.npf_cells_words.proofs.WordLemmas.{place_behind, place_lock, place_reach}
use Rattle.npf_seats.{specs.{Seats.{FitsSeats, Seats}, Sums.occurs}, proofs.{PrefixLemmas.{cons_cases, none_listed}, SeatLemmas.seats-adds}}
use Rattle.npf_seats.proofs.SumLemmas.{one_there, side_same, sum-set}
use Rattle.npf_cells_pins.{specs.Epochs.Epochs, proofs.EpochLemmas.within_last}
use Rattle.npf_cells_leaves.specs.{declared.trie.{SeenCell.SeenCell, TrieSide.TrieSide}, Trie.{digits_of, TrieWords, trie_words, FitsTrie, Trie}}
use Rattle.npf_cells_leaves.proofs.{EmptyLemmas.{TakesKey, EmptiesPlace, empties_place, trie_emptied, fits_emptied}, GivenLemmas.others-fit}
use Rattle.npf_cells_leaves.proofs.TrieLemmas.{KnowsNoMore, cell_there, grown-set, knows_same, are_digits}
use Rattle.npf_cells_lives.specs.{declared.turn.Turn.Turn, Conns.{Conns, entry_seat}, Deaths.{first_note, slots_named, Deaths, unreclaimed}}
use Rattle.npf_cells_lives.specs.{Known.{FitsKnown, Known}, Locks.Locks, Notes.{note_word, NobodyAhead, Notes}, Pools.{taken, Pools}, Stored.StoredWords}
use Rattle.npf_cells_lives.{specs.Turns.{Running, Turns}, proofs.{ConnLemmas.{BuildsIn, builds-kept, unstored-set}, FreedLemmas.{gone_in, freed_stays}}}
use Rattle.npf_cells_lives.proofs.{KnownLemmas.known_now, LockLemmas.{locks-same, holders-set, locks_alone}, PoolLemmas.{pools-kept, taken-set}}
use Rattle.npf_cells_lives.proofs.{StoredLemmas.{stored_kept, stored-set}, TurnLemmas.{turns-kept, turns_alone}}
use Rattle.npf_cells_marks.{specs.Marks.Marks, proofs.{StoringLemmas.marks-stored, ClearingLemmas.bare_place}}
use Rattle.npf_cells_rule.specs.{declared.view.CellView.CellView, Cells.{FitsAlone, IsCells}, Passes.cell_pass}
use Rattle.npf_cells_rule.specs.Views.{seat_side, reader_view, lock_side, mark_side, pool_side, trie_side, turn_side, death_side, seen_side}
use Rattle.npf_cells_rule.proofs.{EntryLemmas.{adds_entry, sole_entries}, Frames.{alone-set, alone_still, framed, epochs_apart}, MarkFrames.place_changed}
use Rattle.npf_cells_rule.proofs.{MarkMetLemmas.{end_nodeless, end_unmarked}, NoteLawLemmas.code_above}
use Rattle.npf_cells_holds.specs.{PublishKinds.publishing, UnlinkKinds.{emptied_at, MayUnlink, unlinked, HasUnlinked, Unlinks}}
use Rattle.npf_cells_holds.proofs.ForgottenLemmas.{epochs_forgot}
use Rattle.npf_cells_holds.proofs.PlaceLemmas.{cell_here, cell_else, key_else, inc_else, parent_else, turn_else, lock_else, own_else, note_else}
use Rattle.npf_cells_holds.proofs.StandingLemmas.{StandsAtEnd, stands_at_end, held_or_none, leaf_within}
use Rattle.npf_cells_holds.proofs.UnheldLemmas.{still_held, held_before, killer_alone, deaths_unheld, known_unheld, notes_unheld}

module _ {S A R : Type 0} (m : Meaning S A R) (digest : Key → ℕ) (layout : Layout) where
  module _ (s : State (Running S) (CellView S A R)) (id : ℕ) (me : Me (Running S) (CellView S A R)) (kept : IsCells m digest layout s)
      (at : get_elem? s.views id ≡ some me.0) (lives : me.0.seats.lives ≡ true) (settled : me.0.seats.theirs ≡ []) (place : 1 ≤ length me.0.seats.readers)
      (conn : ConnId) (way : Way) (p : Place) (inside : IsInTrie layout p) (may : MayUnlink me.0 p conn way) where
    abbrev k : Machine S
    k = state_of m kept.log

    abbrev word : ℕ
    word = place_at layout p

    abbrev words' : List ℕ
    words' = set s.words word 0

    abbrev t : TrieWords
    t = trie_words layout s.words

    abbrev t' : TrieWords
    t' = trie_words layout words'

    abbrev entry : Entry S A R
    entry = record { seat = id; act = Unhold conn way; reply = Nothing }

    abbrev k' : Machine S
    k' = after m k entry

    abbrev giver : CellView S A R
    giver = unlinked me.0 (kept.log ++ entry ∷ []) conn way p

    abbrev views' : List (CellView S A R)
    views' = set s.views id giver

    there : get_elem? (map seat_side s.views) id ≡ some me.0.seats
    there = at_map seat_side s.views id me.0 at

    fits : FitsSeats entry_seat layout.slots (map seat_side s.views) kept.log id me.0.seats
    fits = kept.seats.each id me.0.seats there

    number : me.0.seats.number ≡ id
    number = (fits.lives lives).number

    state : state_of m (kept.log ++ entry ∷ []) ≡ k'
    state = state_of-append m kept.log entry

    dead : stage_of k conn ≡ Dead
    dead = (kept.deaths.kills id me.0 conn at may.killed).dead

    exists : conn.slot < layout.slots
    exists = subst (λ slot. slot < layout.slots) may.there (kept.turns.each id me.0 may.turn at may.has).exists

    -- the note names the place, as it did when it was loaded under the turn
    noted : note_word layout s.words conn.slot way ≡ place_code p
    noted = ap (λ slot. note_word layout s.words slot way) (sym may.there)
        ∙ kept.notes.said id me.0 may.turn (record { field = note_field way; value = place_code p }) way at may.has may.named
        (inl (record { id = conn; built = may.killed; there = sym may.there })) refl

    -- so a key of that way is held
    held : HoldsSome k conn way
    held = ⊎_elim
        (λ some'. some')
        (λ none. absurd (let zero' = kept.notes.given id me.0 conn way at may.killed may.held none in let code = noted in let above = code_above p in omega (arith, zero', code, above)))
        (held_or_none trie_side digest layout kept.published k s.words s.views kept.trie conn way)

    end : StandsAtEnd trie_side digest layout kept.published k s.words s.views kept.trie conn way held.0
    end = stands_at_end trie_side digest layout kept.published k s.words s.views kept.trie conn way held.0 held.1

    -- nobody else has the slot's turn, and the pass is ahead of no note
    other_turns : (j : ℕ) (u : CellView S A R) (theirs : Turn S) → j ≢ id → get_elem? s.views j ≡ some u → u.turn ≡ Some theirs → theirs.slot ≢ conn.slot
    other_turns j u theirs ne e has same =
        ne (turns_alone turn_side layout (unreclaimed death_side s.views k) s.words s.homes s.views j id u me.0 theirs may.turn kept.turns e at has may.has (same ∙ sym may.there))

    ahead_of_none : (mine : Turn S) → me.0.turn ≡ Some mine → mine.ahead ≡ None
    ahead_of_none mine has = let both : Some may.turn ≡ Some mine = sym may.has ∙ has in let one : may.turn ≡ mine = cc in ap (λ (x : Turn S). x.ahead) (sym one) ∙ may.settled

    nobody : NobodyAhead turn_side s.views conn.slot (note_field way)
    nobody j u e a = ⊎_elim
        (λ (same : j ≡ id).
        let one : u ≡ me.0 = one_there s.views id j me.0 u at e same in
        let none = ahead_of_none a.mine (ap (λ (x : CellView S A R). x.turn) (sym one) ∙ a.has) in
        absurd (let no : None ≡ Some a.note = sym none ∙ a.ahead in cc))
        (λ (ne : j ≢ id). other_turns j u a.mine ne e a.has a.there)
        (cases_eq j id)

    -- the key's path ends there, with the connection's leaf
    here : end.place ≡ p
    here = codes_are_apart layout end.place p (leaf_within layout s.words end.place conn.slot way end.says.leaf) inside
        (sym (kept.notes.named (digits_of digest held.0) end.level end.place conn.slot way (are_digits digest held.0) end.ends.on_path end.says.leaf nobody) ∙ noted)

    on : IsOnPath (digits_of digest held.0) t.cell end.level p
    on = subst (λ q. IsOnPath (digits_of digest held.0) t.cell end.level q) here end.ends.on_path

    takes : TakesKey k k' t t' conn way
    takes = record {
      holder = λ other. refl;
      claimed = λ i c. c;
      dead = λ i e. e;
      loser = dead;
      keys = key_else m digest layout s kept p inside 0;
      incs = inc_else m digest layout s kept p inside 0;
      inc_is = end.says.inc_is;
    }

    empties : EmptiesPlace t t' conn.slot way p end.level (digits_of digest held.0)
    empties = record {
      are = are_digits digest held.0;
      on_path = on;
      stood = ap t.cell (sym here) ∙ end.says.leaf;
      emptied = cell_here m digest layout s kept p inside 0;
      others = cell_else m digest layout s kept p inside 0;
      parents = parent_else m digest layout s kept p inside 0;
    }

    follows : MayFollow m layout.slots k entry
    follows = record { allowed = record { killed = dead; held = held }; replied = refl }

    below : (j : ℕ) → j < root_at layout → slice_index words' j ≡ slice_index s.words j
    below j h = get_or-set_other s.words word j 0 0 (λ e. absurd (let far = place_behind layout p in omega (arith, e, h, far)))

    first_notes : (slot : ℕ) → slot < layout.slots → first_note layout words' slot ≡ first_note layout s.words slot
    first_notes slot h = turn_else m digest layout s kept p inside 0 slot notes_field

    seats_after : Seats entry_seat layout.slots all_places (kept.log ++ entry ∷ []) (map seat_side views')
    seats_after = subst (λ sides. Seats entry_seat layout.slots all_places (kept.log ++ entry ∷ []) sides) (sym (map-set seat_side s.views id giver))
        (seats-adds entry_seat layout.slots all_places kept.log (map seat_side s.views) id me.0.seats kept.seats there lives place entry refl)

    epochs_after : Epochs (epoch_word words') (reader_word words') (map reader_view views')
    epochs_after = subst (λ rs. Epochs (epoch_word words') (reader_word words') rs) (sym (map-set reader_view s.views id giver))
        (epochs_forgot (epoch_word words') (reader_word words') (map reader_view s.views) id (reader_view me.0) now (at_map reader_view s.views id me.0 at))
      where
        now : Epochs (epoch_word words') (reader_word words') (map reader_view s.views)
        now = subst (λ rs. Epochs (epoch_word words') (reader_word words') rs) (side_same reader_view s.views id me.0 me.0 at refl)
            (epochs_apart m digest layout s word 0 id me.0 me.0 kept at refl (λ j h. below j (omega (arith, h))))

    pools_after : Pools layout (taken pool_side kept.published k' views') words'
    pools_after = pools-kept layout (taken pool_side kept.published k s.views) (taken pool_side kept.published k' views') s.words words' kept.pools
        (length-set s.words word 0) below (taken-set pool_side kept.published k s.views id me.0 giver at refl refl)

    -- the pass knows no more of the trie, but that the place is empty
    less : KnowsNoMore me.0.trie (publishing me.0.trie)
    less = record {
      stands = λ point e. e;
      leaf = λ leaf e. e;
      seen = λ x e. absurd cc;
      locks = refl;
      answered = λ i c. c;
      marks = refl;
      emptied = λ e is. absurd cc;
      met_mark = λ y is. is;
      grown = refl;
      regained = refl;
    }

    -- each seat fits still: none but this pass had the place's lock
    trie_after : Trie trie_side digest layout kept.published k' words' views'
    trie_after = trie_emptied trie_side digest layout kept.published k k' s.words words' s.views views' conn way p end.level
        (digits_of digest held.0) kept.trie takes empties (grown-set trie_side s.views id me.0 giver at refl refl)
        (others-fit trie_side layout digest k' t' s.views id giver
        (let was = still me.0.trie (publishing me.0.trie) less (λ x e. absurd cc) (kept.trie.each id me.0 at) in
        record { stands = was.stands; leaf = was.leaf; seen = λ x e. absurd cc; claimed = was.claimed })
        (λ j u ne e. still u.trie u.trie (knows_same u.trie)
        (λ x seen has same. locks_alone lock_side layout s.words s.views j id u me.0 (lock_of p) kept.locks (place_lock layout p inside) e at
        (subst (λ q. Contains u.trie.locks (lock_of q)) same has) may.locked ne) (kept.trie.each j u e)))
      where
        still : (side side' : TrieSide) → KnowsNoMore side side' → ((x : SeenCell) → side'.seen ≡ Some x → Contains side.locks (lock_of x.place) → x.place ≢ p) →
            FitsTrie digest layout.slots k t side → FitsTrie digest layout.slots k' t' side'
        still side side' less apart was = fits_emptied trie_side digest layout kept.published k k' s.words words' s.views views' conn way p end.level
            (digits_of digest held.0) kept.trie takes empties side side' less apart was

    connected : Conns pool_side m layout (kept.log ++ entry ∷ []) words' views'
    connected = record {
      reach = length-set s.words word 0 ∙ kept.connections.reach;
      legal = Legal-append m layout.slots kept.log entry kept.connections.legal follows;
      each = subst (λ x. BuildsIn pool_side x views') (sym state) (λ j u e.
          let builds = builds-kept pool_side k s.views id me.0 giver at refl refl kept.connections.each j u e in
          record { building = builds.building; owing = builds.owing; once = builds.once });
      incs = λ slot h. (λ i. inc_else m digest layout s kept p inside 0 slot i + unstored-set pool_side s.views id me.0 giver at refl slot i)
          ∙ (kept.connections.incs slot h ∙ ap (λ x. (x.slot slot).inc) (sym state));
    }

    stored_stays : StoredWords pool_side layout words' views'
    stored_stays = stored-set pool_side layout words' s.views id giver
        (stored_kept layout s.words words' me.0.pools giver.pools (kept.stored id me.0 at) refl (λ pool place' field own. own)
        (own_else m digest layout s kept p inside 0 (digits_of digest held.0) end.level (are_digits digest held.0) on id me.0 at))
        (λ j u ne e. stored_kept layout s.words words' u.pools u.pools (kept.stored j u e) refl (λ pool place' field own. own)
        (own_else m digest layout s kept p inside 0 (digits_of digest held.0) end.level (are_digits digest held.0) on j u e))

    locks_stay : Locks lock_side layout words' views'
    locks_stay = locks-same lock_side layout s.words words' s.views views' kept.locks (lock_else m digest layout s kept p inside 0) (holders-set lock_side layout s.views id me.0 giver at refl)

    -- as many slots are reclaimed
    gone_same : (slot : ℕ) → gone_in death_side views' slot ≡ gone_in death_side s.views slot
    gone_same slot =
        let one = sum-set (λ (u : CellView S A R). occurs slot (slots_named u.pools.reclaims)) s.views id me.0 giver at in
        let two = sum-set (λ (u : CellView S A R). occurs slot (slots_named u.pools.cleared)) s.views id me.0 giver at in
        omega (arith, one, two)

    turns_after : Turns turn_side layout (unreclaimed death_side views' k') words' s.homes views'
    turns_after = turns-kept turn_side layout (unreclaimed death_side s.views k) (unreclaimed death_side views' k') s.words words' s.homes s.views id me.0 giver kept.turns at refl (record {
      turn = λ slot h. turn_else m digest layout s kept p inside 0 slot turn_field;
      phase = λ slot h. turn_else m digest layout s kept p inside 0 slot phase_field;
      slots = λ slot. freed_stays death_side s.views views' k k' slot (gone_same slot) (inl refl);
    })

    -- nobody else killed it
    other_kills : (j : ℕ) (u : CellView S A R) (i : ConnId) → j ≢ id → get_elem? s.views j ≡ some u → Contains u.pools.kills i → i.slot ≢ conn.slot
    other_kills = killer_alone k conn way dead death_side layout s.words words' s.views id me.0 giver kept.deaths at may.killed exists

    deaths_after : Deaths death_side layout k' words' views'
    deaths_after = deaths_unheld k conn way dead death_side layout s.words words' s.views id me.0 giver kept.deaths at may.killed exists refl refl refl refl refl
        (λ i rests. rests) refl (below 0 (omega arith)) first_notes

    seen : FitsKnown (state_of m me.0.seats.history) k conn
    seen = kept.known id me.0 conn at may.killed

    known_after : Known (seen_side m) pool_side k' views'
    known_after = known_unheld k conn way dead (seen_side m) pool_side s.views id giver kept.known other_kills
        (λ i c. subst (λ x. FitsKnown x k' i) (sym state) (known_now k' i (kept.deaths.kills id me.0 i at c).dead))

    notes_after : Notes turn_side pool_side layout t'.cell k' words' views'
    notes_after = notes_unheld k conn way dead turn_side pool_side layout t.cell t'.cell s.words words' s.views id me.0 giver kept.notes at refl refl ahead_of_none other_turns other_kills
        (note_else m digest layout s kept p inside 0)
        (λ digits level q slot w on' is. (
          filled_places (filled_back (empties_place empties)) on',
          sym (empties.others q (λ e. let no : Empty ≡ Leaf slot w = sym empties.emptied ∙ (ap t'.cell (sym e) ∙ is) in absurd cc)) ∙ is,
        ))

    emptied_word : slice_index words' word ≡ 0
    emptied_word = get_or-set_same s.words word 0 0 (let reach = place_reach layout p inside in let long = kept.connections.reach in omega (arith, reach, long))

    -- it is in a stay, since it has a lock
    fits_alone : FitsAlone giver
    fits_alone = alone_still me.0 giver (kept.alone id me.0 at) place refl (λ none. absurd (none_listed (lock_of p) (subst (λ locks. Contains locks (lock_of p)) none.locks may.locked)))

    -- the pass marked no node in which a leaf stands
    unmarked : (x : Marked) → Contains me.0.trie.marks x → ¬ (IsPlaceIn x.node p)
    unmarked x c within =
        let bare = (kept.marks.marks id me.0 x at c).bare in
        let none : t.cell p ≡ Empty = cell_there layout s.words p inside ∙ ap shown_of (bare_place layout s.words p x.node within inside bare) in
        let no : Leaf conn.slot way ≡ Empty = sym empties.stood ∙ none in
        cc

    -- no mark stands there then, nor did one or a node, and the node of the place was published
    no_mark : (n : ℕ) → ¬ (IsMarkOf layout words' p n)
    no_mark n is =
        let here' : slice_index words' word ≡ 0 = emptied_word in
        absurd (omega (arith, is, here'))

    hung : (digits : ℕ → ℕ) (level : ℕ) (q : Place) (n : ℕ) → AreDigits digits → IsOnPath digits t.cell level q → IsPlaceIn n q → Contains kept.published n
    hung digits _ _ n are at_root within = absurd within
    hung digits _ _ n are (further level q node on' is) within = subst (Contains kept.published) within (kept.trie.nodes digits level q node are on' is).published_once

    -- what the pass knows to be empty then is this place, where it is one of a node
    knows : (q : Place) → slice_index words' (place_at layout q) ≡ 0 → (e : Emptied) → emptied_at q ≡ Some e → IsPlaceIn e.node q × (e.parent ≡ None) ×
        ((digit : ℕ) → Contains e.digits digit → q ≡ Places.Node e.node digit) × (slice_index words' (place_at layout q) ≡ 0)
    knows (Places.Root digit) none e is = absurd cc
    knows (Places.Node node digit) none e is = subst (λ (y : Emptied). IsPlaceIn y.node (Places.Node node digit) × (y.parent ≡ None) ×
        ((d : ℕ) → Contains y.digits d → Places.Node node digit ≡ Places.Node y.node d) × (slice_index words' (place_at layout (Places.Node node digit)) ≡ 0))
        (let same : (record { node = node; parent = None; digits = digit ∷ [] }) ≡ e = cc in same)
        (refl, refl, (λ d c. ⊎_elim (λ (same : digit ≡ d). ap (Places.Node node) same) (λ (none' : Contains [] d). absurd (none_listed d none')) (cons_cases digit d [] c)), none)

    marks_after : Marks mark_side layout kept.published words' views'
    marks_after = marks-stored mark_side layout kept.published kept.published s.words words' s.views id p me.0 giver kept.marks at (record {
      changes = place_changed layout s.words p 0 inside;
      inside = inside;
      locked = may.locked;
      alone = λ j u ne e c. locks_alone lock_side layout s.words s.views j id u me.0 (lock_of p) kept.locks (place_lock layout p inside) e at c may.locked ne;
      no_node = λ n. end_nodeless m digest layout s kept p inside n (subst IsEnd (sym empties.stood) tt);
      no_mark = λ n. end_unmarked m digest layout s kept p inside n (subst IsEnd (sym empties.stood) tt);
      markless = no_mark;
      unmarked = unmarked;
      listed = λ n c. c;
      hung = λ n within. hung (digits_of digest held.0) end.level p n (are_digits digest held.0) on within;
      marks = refl;
      emptied = knows p emptied_word;
      met = refl;
      unfreed = refl;
      locks = refl;
      loaded = λ x c one. absurd (omega (arith, one));
      rests = record { rests = λ node rests. ⊎_elim (λ at_place. inl at_place) (λ none. absurd none) rests; protecting = refl };
    })

    pub unlinks : IsCells m digest layout (stepped s word 0 id me.1 giver keeps)
    unlinks = framed m digest layout s (stepped s word 0 id me.1 giver keeps) kept kept.published (kept.log ++ entry ∷ []) (length-set s.words word 0)
        seats_after
        epochs_after
        (subst (λ x. Pools layout (taken pool_side kept.published x views') words') (sym state) pools_after)
        (subst (λ x. Trie trie_side digest layout kept.published x words' views') (sym state) trie_after)
        connected
        stored_stays
        locks_stay
        (subst (λ x. Turns turn_side layout (unreclaimed death_side views' x) words' s.homes views') (sym state) turns_after)
        (subst (λ x. Deaths death_side layout x words' views') (sym state) deaths_after)
        (subst (λ x. Known (seen_side m) pool_side x views') (sym state) known_after)
        (subst (λ x. Notes turn_side pool_side layout t'.cell x words' views') (sym state) notes_after)
        marks_after
        (alone-set s.views id giver fits_alone kept.alone)

    -- the Unhold ends what the pass has then seen
    pub has_unlinked : HasUnlinked m conn way p me (giver, me.1)
    has_unlinked = record {
      held = (held.0, seen.back way held.0 held.1);
      dead = ap (λ x. stage_of x conn) state ∙ dead;
      others = λ other key ne. (
        λ was. subst (λ x. Holds x conn other key) (sym state) (still_held k conn way key (record { id = conn; way = other }) (λ e. ne (ap (λ (f : Found). f.way) e)) (seen.held other key was)),
        λ now. seen.back other key (held_before k conn way key (record { id = conn; way = other }) (subst (λ x. Holds x conn other key) state now)),
      );
      adds = subst (AddsOwn (cell_pass me.0) (kept.log ++ entry ∷ [])) (ap (λ n. record entry { seat = n } ∷ []) (sym number))
          (adds_entry layout.slots kept.log (map seat_side s.views) id me.0 kept.seats there lives place entry refl);
      legal = λ was. record {
        legal = subst (λ slots. Legal m slots (kept.log ++ entry ∷ [])) (sym (fits.sized place)) (Legal-append m layout.slots kept.log entry kept.connections.legal follows);
        stays = λ i c. subst (λ n. IsClaimed (stage_of n i)) (sym state) ((kept.trie.each id me.0 at).claimed i c);
        building = λ i c. ap (λ n. stage_of n i) state ∙ ((kept.connections.each id me.0 at).building i c ∙ ap (λ n. Building n) (sym number));
        unanswered = was.unanswered;
        idle = was.idle;
        alone = sole_entries layout.slots kept.log (map seat_side s.views) id me.0 kept.seats there lives place entry refl settled;
        most = within_last _ _ _ kept.epochs id (reader_view me.0) (at_map reader_view s.views id me.0 at);
      };
      is = refl;
    }

  pub may_unlink : (st : Step (Running S)) (id n : ℕ) (conn : ConnId) (way : Way) (p : Place) (me : Me (Running S) (CellView S A R)) →
      IsInTrie layout p → me.0.seats.lives ≡ true → me.0.seats.theirs ≡ [] → 1 ≤ length me.0.seats.readers →
      MayUnlink me.0 p conn way → Allows (IsCells m digest layout) n id me (place_at layout p) (λ _. 0) (λ _. Unlinks m conn way p st me 0)
  may_unlink st id n conn way p me inside lives settled place may s kept homes at bound = (
    giver s id me kept at lives settled place conn way p inside may,
    keeps,
    tt,
    unlinks s id me kept at lives settled place conn way p inside may,
    record { unlinked = has_unlinked s id me kept at lives settled place conn way p inside may },
  )
