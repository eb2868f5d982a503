-- Kind 11 with its look, and kind 12, keep the rule.
use Rattle.std.specs.List.{Contains}
use Rattle.std.proofs.Common.{◌≡◌, ◌⊎◌, ℕ, zero, suc, ◌+◌, ◌/◌, ◌%◌, ◌^◌, ◌<◌, ◌≤◌, cond, eqb, eq-eqb, ne_eqb, ◌≢◌, true, true≢false, Option, Some, None, List, [], ◌∷◌}
use Rattle.std.proofs.{Common.{◌++◌, map, set, length, slice_index, refl, sym, ap, ◌∙◌, subst, ⊎_elim, inl, inr, arith, length-set}, lemmas.List.set-get_or}
use mathlib.Core.Option.{some}
use lib.ListN.{get_elem?}
use Rattle.atomic_table.{specs.Table.{State, Me, Step, Allows, Act, Valid, carried_after, stepped, keeps}, proofs.Lists.at_map}
use Rattle.npf_types.specs.declared.key.{Key.Key, Way.Way}
use Rattle.npf_shelf.proofs.OptionLemmas.{Some-injective}
use Rattle.npf_core.specs.declared.{act.Act.TheVariants.Look, conn_id.ConnId.ConnId, entry.Entry.Entry, found.Found.Found, reply.Reply.TheVariants.ToLook}
use Rattle.npf_core.specs.{declared.stage.Stage.TheVariants.Building, History.{MayFollow, Legal, state_of}, Machine.{Machine, stage_of, IsClaimed}}
use Rattle.npf_core.{specs.Meaning.Meaning, proofs.{HistoryLemmas.{state_of-append, Legal-append}, HolderLemmas.holders_claimed}}
use Rattle.npf_connections.specs.{Adding.AddsOwn, Answered.found_ids}
use Rattle.npf_paths.specs.declared.{cell.Cell.{Cell, TheVariants.{Empty, Leaf, Node, Mark}}, place.Place.Place}
use Rattle.npf_paths.specs.declared.place.Place.TheVariants as Places
use Rattle.npf_paths.specs.{CellWords.{way_numbered, cell_of, IsCellWord}, Paths.{IsOnPath, IsEnd, IsOnPath.{at_root, further}}}
use Rattle.npf_cells_words.specs.{declared.layout.{Layout.Layout, Pool.TheVariants.Slots}, Layout.{root_at, key_field, field_at}}
use Rattle.npf_cells_words.{specs.Places.{IsInTrie, IsPlaceIn, place_at}, proofs.WordLemmas.place_behind}
use Rattle.npf_seats.{specs.Seats.FitsSeats, proofs.PrefixLemmas.cons_cases}
use Rattle.npf_cells_pins.proofs.EpochLemmas.{within_last}
use Rattle.npf_cells_leaves.specs.declared.trie.{LoadedLeaf.LoadedLeaf, PathPlace.PathPlace, SeenCell.SeenCell, TrieSide.TrieSide}
use Rattle.npf_cells_leaves.specs.Trie.{key_in, digits_of, TrieWords, trie_words, leaf_found, holder_at, StaysLeaf, StaysSighted, FitsTrie, Trie}
use Rattle.npf_cells_leaves.proofs.TrieLemmas.{are_digits, trie_moved}
use Rattle.npf_cells_lives.{specs.{Conns.{inc_word, entry_seat}, Deaths.{IsKeyless, last_id}, Pools.taken}, proofs.ConnLemmas.{builds-kept, unstored-set}}
use Rattle.npf_cells_lives.{proofs.{DeathLemmas.{spares_all, RestsNoMore}, PoolLemmas.{pools-same, taken-set}}, specs.Turns.Running}
use Rattle.npf_cells_marks.{specs.{Marks.{MarkSide, IsSomePlaceIn, RestsIn, HasMark, Marks}, Steps.LeavesMarks}, proofs.StepLemmas.marks-same}
use Rattle.npf_cells_rule.specs.{declared.view.CellView.CellView, Cells.{FitsAlone, IsCells}, Passes.{IsProtected, cell_pass}}
use Rattle.npf_cells_rule.specs.Views.{seat_side, reader_view, with_trie, pool_side, trie_side, leaf_id, death_side, mark_side, point_place}
use Rattle.npf_cells_rule.proofs.{DeathFrames.{rests_or_holds, holder_keyed, deaths_load}, EntryLemmas.{adds_entry, sole_entries}}
use Rattle.npf_cells_rule.proofs.Frames.{notes_still, alone_still, alone_within, conns_apart, stored_apart, locks_apart, turns_behind, entry_step, private_step}
use Rattle.npf_cells_rule.proofs.{MarkFrames.{words_loaded, marks_on}, MarkMetLemmas.{mark_said, real_there, mark_holds_none, hangs_unmarked}}
use Rattle.npf_cells_rule.proofs.PassLemmas.{pinned_in}
use Rattle.npf_cells_holds.specs.LookKinds.{StandsOnPath, level_of, level_at, descending, TellsHolder, looked, HasLooked, FitsLayout, LooksAt, LoadsPlace, reading, LoadsKey}
use Rattle.npf_cells_holds.proofs.StandingLemmas.{stands_at_end}

-- a word of a key in its place
pub word_of : (layout : Layout) (words : List ℕ) (slot : ℕ) (way : Way) (place : ℕ) → place < 5 →
    slice_index words (field_at layout Slots slot (key_field way + place)) ≡ slice_index (key_in layout words slot way).0 place
word_of layout words slot way zero h = refl
word_of layout words slot way (suc zero) h = refl
word_of layout words slot way (suc (suc zero)) h = refl
word_of layout words slot way (suc (suc (suc zero))) h = refl
word_of layout words slot way (suc (suc (suc (suc zero)))) h = refl
word_of layout words slot way (suc (suc (suc (suc (suc place))))) h = absurd (omega (arith, h))

-- where a pass stands is on the key's path
pub on_path : {S : Type 0} (digest : Key → ℕ) (slots : ℕ) (k : Machine S) (t : TrieWords) (side : TrieSide) (key : Key) (p : Place) → FitsTrie digest slots k t side → StandsOnPath digest side key p →
    IsOnPath (digits_of digest key) t.cell (level_at side p) p
on_path digest slots k t side key (Places.Root digit) fits stands = subst (λ d. IsOnPath (digits_of digest key) t.cell 0 (Places.Root d)) (sym stands) at_root
on_path digest slots k t side key (Places.Node node digit) fits (level, is) =
    subst (λ l. IsOnPath (digits_of digest key) t.cell l (Places.Node node digit)) (sym (ap level_of is)) (fits.stands (record { key = key; level = level; place = Places.Node node digit }) is)

-- the leaf that a pass knows after the load of an end
abbrev pub leaf_after : TrieWords → Cell → Option LoadedLeaf → Option LoadedLeaf
leaf_after t Empty old = old
leaf_after t (Leaf slot way) old = Some (record { slot = slot; way = way; key = t.key slot way; inc = t.inc slot })
leaf_after t (Node node) old = old
leaf_after t Mark old = old

tells : (t : TrieWords) (five : (slot : ℕ) (way : Way) → length (t.key slot way).0 ≡ 5) (cell : Cell) (key : Key) (old : Option LoadedLeaf) →
    IsEnd cell → TellsHolder cell key (holder_at t cell key) old (leaf_after t cell old)
tells t five Empty key old ends = (refl, refl)
tells t five (Leaf slot way) key old ends = (record { slot = slot; way = way; key = t.key slot way; inc = t.inc slot }, refl, record { slot_is = refl; way_is = refl; five = five slot way }, refl)
tells t five (Node node) key old ends = absurd ends
tells t five Mark key old ends = (refl, refl)

-- a cell of the table can be made from its word
pub fits_word : (layout : Layout) (word : ℕ) → layout.slots < 2 ^ 32 → layout.nodes < 2 ^ 32 → FitsLayout layout (cell_of word) → IsCellWord word
fits_word layout word slots nodes fits = record {
  slot_fits = λ e. let leaf : word / 4 / 3 < layout.slots = subst (FitsLayout layout)
      (ap (λ b. cond b (Leaf (word / 4 / 3) (way_numbered (word / 4 % 3))) (cond (eqb (word % 4) 2) (Node (word / 4)) (cond (eqb (word % 4) 3) Mark Empty))) (eq-eqb (word % 4) 1 e)) fits in
      omega (arith, leaf, slots);
  node_fits = λ e.
      let node : word / 4 < layout.nodes = subst (FitsLayout layout) ((λ i. cond (ne_eqb (word % 4) 1 (λ one. absurd (omega (arith, one, e))) i)
      (Leaf (word / 4 / 3) (way_numbered (word / 4 % 3))) (cond (eq-eqb (word % 4) 2 e i) (Node (word / 4)) (cond (eqb (word % 4) 3) Mark Empty)))) fits in
      omega (arith, node, nodes);
}

fits_layout : (layout : Layout) (cell : Cell) → ((slot : ℕ) (way : Way) → cell ≡ Leaf slot way → slot < layout.slots) → ((node : ℕ) → cell ≡ Node node → node < layout.nodes) → FitsLayout layout cell
fits_layout layout Empty leaf node = tt
fits_layout layout (Leaf slot way) leaf node = leaf slot way refl
fits_layout layout (Node n) leaf node = node n refl
fits_layout layout Mark leaf node = tt

module _ {S A R : Type 0} (m : Meaning S A R) (digest : Key → ℕ) (layout : Layout) where
  -- a load of a word behind the pools', after which the seat still fits
  pub load_step : (s : State (Running S) (CellView S A R)) (i id : ℕ) (c : List (ℕ × Running S)) (v : CellView S A R) (side : TrieSide) (kept : IsCells m digest layout s) →
      get_elem? s.views id ≡ some v → root_at layout ≤ i →
      FitsTrie digest layout.slots (state_of m kept.log) (trie_words layout s.words) side → side.locks ≡ v.trie.locks → side.grown ≡ v.trie.grown →
      side.regained ≡ v.trie.regained → RestsNoMore (state_of m kept.log) (death_side v) (death_side (record v { trie = side })) → FitsAlone (record v { trie = side }) →
      Marks mark_side layout kept.published (set s.words i (slice_index s.words i)) (set s.views id (record v { trie = side })) →
      IsCells m digest layout (stepped s i (slice_index s.words i) id c (record v { trie = side }) keeps)
  load_step s i id c v side kept at behind fits locks grown back less alone marks =
      let w : CellView S A R = record v { trie = side } in
      private_step m digest layout s i (slice_index s.words i) id c v w kept at behind refl refl refl refl refl (λ conn killed. killed) alone
      (subst (λ ws. Trie trie_side digest layout kept.published (state_of m kept.log) ws (set s.views id w)) (sym (set-get_or s.words i 0))
      (trie_moved trie_side digest layout kept.published (state_of m kept.log) s.words s.views id v w kept.trie at grown back fits))
      (conns_apart m digest layout s i (slice_index s.words i) id v w kept at refl refl (λ j h. ap (λ ws. slice_index ws j) (set-get_or s.words i 0)))
      (stored_apart m digest layout s i (slice_index s.words i) id w kept (kept.stored id v at) (λ j h. ap (λ ws. slice_index ws j) (set-get_or s.words i 0)))
      (locks_apart m digest layout s i (slice_index s.words i) id v w kept at locks (λ j h. ap (λ ws. slice_index ws j) (set-get_or s.words i 0)))
      (turns_behind m digest layout s i (slice_index s.words i) id v w kept at refl refl (λ j h. ap (λ ws. slice_index ws j) (set-get_or s.words i 0)))
      (deaths_load m digest layout s i id v w kept at refl refl less)
      (notes_still m digest layout s i (slice_index s.words i) id v w kept at refl refl refl refl (λ j h. ap (λ ws. slice_index ws j) (set-get_or s.words i 0)))
      marks

  module _ (s : State (Running S) (CellView S A R)) (id : ℕ) (me : Me (Running S) (CellView S A R)) (kept : IsCells m digest layout s) (at : get_elem? s.views id ≡ some me.0)
      (lives : me.0.seats.lives ≡ true) (settled : me.0.seats.theirs ≡ []) (place : 1 ≤ length me.0.seats.readers) (stays : IsProtected me.0.epochs.pin)
      (packet : ℕ) (key : Key) (p : Place) (inside : IsInTrie layout p) (stands : StandsOnPath digest me.0.trie key p) where
    abbrev word : ℕ
    word = place_at layout p

    abbrev k : Machine S
    k = state_of m kept.log

    abbrev t : TrieWords
    t = trie_words layout s.words

    abbrev level : ℕ
    level = level_at me.0.trie p

    -- what the word says; where it is a mark, the path goes on to its node
    abbrev shows : Cell
    shows = cell_of (slice_index s.words word)

    abbrev found : Option Found
    found = k.holder key

    abbrev entry : Entry S A R
    entry = record { seat = id; act = Look packet key; reply = ToLook found }

    abbrev looker : CellView S A R
    looker = looked me.0 key p shows (kept.log ++ entry ∷ []) (leaf_after t shows me.0.trie.leaf) found

    pub on : IsOnPath (digits_of digest key) t.cell level p
    on = on_path digest layout.slots k t me.0.trie key p (kept.trie.each id me.0 at) stands

    there : get_elem? (map seat_side s.views) id ≡ some me.0.seats
    there = at_map seat_side s.views id me.0 at

    fits : FitsSeats entry_seat layout.slots (map seat_side s.views) kept.log id me.0.seats
    fits = kept.seats.each id me.0.seats there

    number : me.0.seats.number ≡ id
    number = (fits.lives lives).number

    -- what no mark is leads where it says
    pub shown : (cell : Cell) → shows ≡ cell → cell ≢ Mark → t.cell p ≡ cell
    shown cell is real = real_there m digest layout s kept p inside cell is real

    -- what it then saw stands there
    pub sees : (cell : Cell) → shows ≡ cell → (x : SeenCell) → Some (record { key = key; level = level; place = p; cell = cell }) ≡ Some x → StaysSighted digest t me.0.trie.locks x
    sees cell is x e = subst (StaysSighted digest t me.0.trie.locks) (Some-injective _ _ e) (record { on_path = on; locked = λ _ real. shown cell is real })

    -- who sees a place in a node stood there
    stood_in : (x : ℕ) → IsPlaceIn x p → IsSomePlaceIn x (point_place me.0.trie.stands)
    stood_in x within = in_place p stands within
      where
        in_place : (q : Place) → StandsOnPath digest me.0.trie key q → IsPlaceIn x q → IsSomePlaceIn x (point_place me.0.trie.stands)
        in_place (Places.Root digit) first within' = absurd within'
        in_place (Places.Node node digit) (at_level, is) within' = subst (λ o. IsSomePlaceIn x (point_place o)) (sym is) within'

    -- the part on marks stays where only the place is seen, and where a node leads on: no mark of it stands
    marks_loaded : (w : CellView S A R) (side : MarkSide) → mark_side w ≡ side → LeavesMarks layout kept.published kept.published s.words
        (set s.words word (slice_index s.words word)) (mark_side me.0) side → Marks mark_side layout kept.published (set s.words word (slice_index s.words word)) (set s.views id w)
    marks_loaded w side is leaves = marks-same mark_side layout kept.published kept.published s.words (set s.words word (slice_index s.words word)) s.views id me.0 w kept.marks at
        (subst (LeavesMarks layout kept.published kept.published s.words (set s.words word (slice_index s.words word)) (mark_side me.0)) (sym is) leaves)

    leaves_marks : (side : MarkSide) → side ≡ record (mark_side me.0) { stands = side.stands; saw = side.saw } → ((x : ℕ) → HasMark layout s.words x → RestsIn side x → RestsIn (mark_side me.0) x) →
        LeavesMarks layout kept.published kept.published s.words (set s.words word (slice_index s.words word)) (mark_side me.0) side
    leaves_marks side same rests =
        let words = words_loaded layout kept.published s.words word in
        record {
          goes = words.goes;
          places = words.places;
          states = words.states;
          parents = words.parents;
          listed = λ x c. c;
          marks = ap (λ (y : MarkSide). y.marks) same;
          emptied = λ e is. ap (λ (y : MarkSide). y.emptied) (sym same) ∙ is;
          met = λ e is. ap (λ (y : MarkSide). y.met) (sym same) ∙ is;
          unfreed = ap (λ (y : MarkSide). y.unfreed) same;
          locks = ap (λ (y : MarkSide). y.locks) same;
          loaded = λ mark c some'. ap (λ (y : MarkSide). y.loaded) same;
          rests = λ x has within. (rests x has within, ap (λ (y : MarkSide). y.protecting) same);
        }

    pub marks_seen : (w : CellView S A R) → mark_side w ≡ record (mark_side me.0) { saw = Some p } →
        Marks mark_side layout kept.published (set s.words word (slice_index s.words word)) (set s.views id w)
    marks_seen w is = marks_loaded w (record (mark_side me.0) { saw = Some p }) is
        (leaves_marks (record (mark_side me.0) { saw = Some p }) refl
        (λ x has rests. ⊎_elim (λ (there : IsSomePlaceIn x (point_place me.0.trie.stands)). inl there) (λ (saw : IsPlaceIn x p). inl (stood_in x saw)) rests))

    pub marks_led : (w : CellView S A R) (node digit : ℕ) → shows ≡ Node node → mark_side w ≡ record (mark_side me.0) { stands = Some (Places.Node node digit); saw = Some p } →
        Marks mark_side layout kept.published (set s.words word (slice_index s.words word)) (set s.views id w)
    marks_led w node digit leads is = marks_loaded w (record (mark_side me.0) { stands = Some (Places.Node node digit); saw = Some p }) is
        (leaves_marks (record (mark_side me.0) { stands = Some (Places.Node node digit); saw = Some p }) refl (λ x has rests. ⊎_elim
        (λ (same : node ≡ x).
        absurd (hangs_unmarked m digest layout s kept p inside (digits_of digest key) level node (are_digits digest key) on leads (subst (HasMark layout s.words) (sym same) has)))
        (λ (saw : IsPlaceIn x p). inl (stood_in x saw))
        rests))

    -- a node leads on
    pub descends : (node : ℕ) → shows ≡ Node node →
        IsCells m digest layout (stepped s word (slice_index s.words word) id me.1 (record me.0 { trie = descending digest key p level node me.0.trie }) keeps)
    descends node is = load_step s word id me.1 me.0 (descending digest key p level node me.0.trie) kept at (place_behind layout p) (record {
      stands = λ point e. subst (λ (x : PathPlace). IsOnPath (digits_of digest x.key) t.cell x.level x.place) (Some-injective _ _ e) (further level p node on (shown (Node node) is (λ no. absurd cc)));
      leaf = (kept.trie.each id me.0 at).leaf;
      seen = sees (Node node) is;
      claimed = (kept.trie.each id me.0 at).claimed;
    }) refl refl refl (record { rests = λ i dead bare rests. (rests, refl) }) (alone_within (record me.0 { trie = descending digest key p level node me.0.trie }) place stays)
        (marks_led (record me.0 { trie = descending digest key p level node me.0.trie }) node (digits_of digest key (level + 1)) is refl)

    -- the leaf that is then known stays
    leaf_fits : (cell : Cell) → shows ≡ cell → (leaf : LoadedLeaf) → leaf_after t cell me.0.trie.leaf ≡ Some leaf → StaysLeaf layout.slots k t leaf
    leaf_fits Empty is leaf e = (kept.trie.each id me.0 at).leaf leaf e
    leaf_fits (Leaf slot way) is leaf e =
        let right = kept.trie.leaves (digits_of digest key) level p slot way (are_digits digest key) on (shown (Leaf slot way) is (λ no. absurd cc)) in
        subst (StaysLeaf layout.slots k t) (Some-injective _ _ e) (record { right = inl right; key = refl; inc = refl })
    leaf_fits (Node node) is leaf e = (kept.trie.each id me.0 at).leaf leaf e
    leaf_fits Mark is leaf e = (kept.trie.each id me.0 at).leaf leaf e

    -- whoever is answered is claimed
    found_claimed : (x : Option Found) → k.holder key ≡ x → (i : ConnId) → Contains (found_ids x ++ me.0.trie.answered) i → IsClaimed (stage_of k i)
    found_claimed None e i c = (kept.trie.each id me.0 at).claimed i c
    found_claimed (Some holder) e i c = ⊎_elim
        (λ (same : holder.id ≡ i). subst (λ (x : ConnId). IsClaimed (stage_of k x)) same (holders_claimed m layout.slots kept.log kept.connections.legal key holder e))
        (λ c'. (kept.trie.each id me.0 at).claimed i c')
        (cons_cases holder.id i me.0.trie.answered c)

    looker_fits : FitsTrie digest layout.slots k t looker.trie
    looker_fits = record { stands = (kept.trie.each id me.0 at).stands; leaf = leaf_fits shows refl; seen = sees shows refl; claimed = found_claimed found refl }

    -- whom it rests on anew holds a key
    leaf_holds : (cell : Cell) → shows ≡ cell → (i : ConnId) → leaf_id (leaf_after t cell me.0.trie.leaf) ≡ Some i → (leaf_id me.0.trie.leaf ≡ Some i) ⊎ ¬ (IsKeyless k i)
    leaf_holds Empty is i e = inl e
    leaf_holds (Leaf slot way) is i e =
        let right = kept.trie.leaves (digits_of digest key) level p slot way (are_digits digest key) on (shown (Leaf slot way) is (λ no. absurd cc)) in
        inr (subst (λ (x : ConnId). ¬ (IsKeyless k x)) (Some-injective _ _ e) (holder_keyed k (t.key slot way) (leaf_found t slot way) right.held))
    leaf_holds (Node node) is i e = inl e
    leaf_holds Mark is i e = inl e

    answered_holds : (x : Option Found) → k.holder key ≡ x → (i : ConnId) → Contains (found_ids x ++ me.0.trie.answered) i → Contains me.0.trie.answered i ⊎ ¬ (IsKeyless k i)
    answered_holds None e i c = inl c
    answered_holds (Some holder) e i c = ⊎_elim
        (λ (same : holder.id ≡ i). inr (subst (λ (x : ConnId). ¬ (IsKeyless k x)) same (holder_keyed k key holder e)))
        (λ c'. inl c')
        (cons_cases holder.id i me.0.trie.answered c)

    looker_rests : RestsNoMore k (death_side me.0) (death_side looker)
    looker_rests = rests_or_holds k (death_side me.0) (death_side looker) refl (λ i rests. ⊎_elim
        (λ (c : Contains looker.trie.answered i). ⊎_elim (λ c'. inl (inl c')) (λ no. inr no) (answered_holds found refl i c))
        (λ (e : leaf_id looker.trie.leaf ≡ Some i). ⊎_elim (λ e'. inl (inr e')) (λ no. inr no) (leaf_holds shows refl i e))
        rests)

    follows : MayFollow m layout.slots k entry
    follows = record { allowed = tt; replied = refl }

    pub ends : IsCells m digest layout (stepped s word (slice_index s.words word) id me.1 looker keeps)
    ends =
        let words = set-get_or s.words word 0 in
        entry_step m digest layout s word (slice_index s.words word) id me.1 me.0 looker kept at lives place entry refl follows refl refl
        (kept.stored id me.0 at) refl refl (λ slot. inl refl) (λ other. refl) refl (spares_all k) (λ slot. refl) looker_rests refl (λ i c. c) (alone_within looker place stays)
        (record { before = λ j h. ap (λ ws. slice_index ws j) words; behind = λ j h. ap (λ ws. slice_index ws j) words })
        (pools-same layout (taken pool_side kept.published k s.views) (taken pool_side kept.published k (set s.views id looker)) s.words (set s.words word (slice_index s.words word)) kept.pools
        (length-set s.words word (slice_index s.words word)) (λ j h. ap (λ ws. slice_index ws j) words) (taken-set pool_side kept.published k s.views id me.0 looker at refl refl))
        (subst (λ ws. Trie trie_side digest layout kept.published k ws (set s.views id looker)) (sym words)
        (trie_moved trie_side digest layout kept.published k s.words s.views id me.0 looker kept.trie at refl refl looker_fits))
        (builds-kept pool_side k s.views id me.0 looker at refl refl kept.connections.each)
        (λ slot h. ap (λ n. inc_word layout s.words slot + n) (unstored-set pool_side s.views id me.0 looker at refl slot) ∙ kept.connections.incs slot h)
        (marks_seen looker refl)

    -- the end of the path says who holds the key; a mark says that nobody does
    told_real : (cell : Cell) → t.cell p ≡ cell → IsEnd cell → TellsHolder cell key found me.0.trie.leaf (leaf_after t cell me.0.trie.leaf)
    told_real cell is end =
        let holds = kept.trie.ends key level p (record { on_path = on; is_end = subst IsEnd (sym is) end }) ∙ ap (λ c. holder_at t c key) is in
        subst (λ x. TellsHolder cell key x me.0.trie.leaf (leaf_after t cell me.0.trie.leaf)) (sym holds) (tells t (λ slot way. refl) cell key me.0.trie.leaf end)

    told_of : (cell : Cell) → shows ≡ cell → IsEnd cell → TellsHolder cell key found me.0.trie.leaf (leaf_after t cell me.0.trie.leaf)
    told_of Empty is end = told_real Empty (shown Empty is (λ no. absurd cc)) end
    told_of (Leaf slot way) is end = told_real (Leaf slot way) (shown (Leaf slot way) is (λ no. absurd cc)) end
    told_of (Node node) is end = absurd end
    told_of Mark is end = (mark_holds_none m digest layout s kept p inside key level (slice_index s.words word / 4) on (mark_said m digest layout s kept p inside is), refl)

    -- the look ends what the pass has then seen
    pub has_looked : IsEnd shows → HasLooked m packet key p shows me (looker, me.1)
    has_looked end = record {
      found = found;
      adds = subst (AddsOwn (cell_pass me.0) (kept.log ++ entry ∷ [])) (ap (λ n. record entry { seat = n } ∷ []) (sym number))
          (adds_entry layout.slots kept.log (map seat_side s.views) id me.0 kept.seats there lives place entry refl);
      legal = record {
        legal = subst (λ slots. Legal m slots (kept.log ++ entry ∷ [])) (sym (fits.sized place)) (Legal-append m layout.slots kept.log entry kept.connections.legal follows);
        stays = λ i c. subst (λ n. IsClaimed (stage_of n i)) (sym (state_of-append m kept.log entry)) (looker_fits.claimed i c);
        building = λ i c. ap (λ n. stage_of n i) (state_of-append m kept.log entry) ∙ ((kept.connections.each id me.0 at).building i c ∙ ap (λ n. Building n) (sym number));
        unanswered = λ out. absurd (true≢false (sym (pinned_in me.0.epochs.pin stays) ∙ out));
        idle = λ out. absurd (true≢false (sym (pinned_in me.0.epochs.pin stays) ∙ out));
        alone = sole_entries layout.slots kept.log (map seat_side s.views) id me.0 kept.seats there lives place entry refl settled;
        most = within_last _ _ _ kept.epochs id (reader_view me.0) (at_map reader_view s.views id me.0 at);
      };
      tells = told_of shows refl end;
      is = refl;
    }

    pub fits_table : FitsLayout layout shows
    fits_table = fits_layout layout shows
        (λ slot way e. (kept.trie.leaves (digits_of digest key) level p slot way (are_digits digest key) on (shown (Leaf slot way) e (λ no. absurd cc))).exists)
        (λ node e. (kept.trie.nodes (digits_of digest key) level p node (are_digits digest key) on (shown (Node node) e (λ no. absurd cc))).exists)

    pub shallow : (node : ℕ) → shows ≡ Node node → level < 94
    shallow node e = (kept.trie.nodes (digits_of digest key) level p node (are_digits digest key) on (shown (Node node) e (λ no. absurd cc))).within

  pub may_look : (st : Step (Running S)) (id n packet : ℕ) (key : Key) (p : Place) (me : Me (Running S) (CellView S A R)) → IsInTrie layout p →
      me.0.seats.lives ≡ true → me.0.seats.theirs ≡ [] → 1 ≤ length me.0.seats.readers → IsProtected me.0.epochs.pin →
      StandsOnPath digest me.0.trie key p → Allows (IsCells m digest layout) n id me (place_at layout p) (λ x. x) (LoadsPlace m digest layout packet key p st me)
  may_look st id n packet key p me inside lives settled place stays stands s kept homes at bound = by_cell (cell_of (slice_index s.words (place_at layout p))) refl
    where
      number : ℕ
      number = slice_index s.words (place_at layout p)

      fits : FitsLayout layout (cell_of number)
      fits = fits_table s id me kept at lives settled place stays packet key p inside stands

      told : (w : CellView S A R) → LooksAt m digest layout packet key p (cell_of number) me (w, me.1) → LoadsPlace m digest layout packet key p st me number (w, me.1)
      told w looks = record { looks = looks }

      Loaded : Type 0
      Loaded = (w : CellView S A R) × (a : Act (Running S)) × Valid s.homes me.1 a × IsCells m digest layout (stepped s (place_at layout p) number id me.1 w a) ×
          LoadsPlace m digest layout packet key p st me number (w, carried_after me.1 a)

      at_end : IsEnd (cell_of number) → ((node : ℕ) → ¬ (cell_of number ≡ Node node)) → Loaded
      at_end end other = (
        looker s id me kept at lives settled place stays packet key p inside stands,
        keeps,
        tt,
        ends s id me kept at lives settled place stays packet key p inside stands,
        told (looker s id me kept at lives settled place stays packet key p inside stands)
            (record { fits = fits; leads = λ node e. absurd (other node e); ends = λ _. has_looked s id me kept at lives settled place stays packet key p inside stands end }),
      )

      by_cell : (c : Cell) → cell_of number ≡ c → Loaded
      by_cell Empty e = at_end (rw e tt) (λ node is. let no : Empty ≡ Node node = sym e ∙ is in cc)
      by_cell (Leaf slot way) e = at_end (rw e tt) (λ node is. let no : Leaf slot way ≡ Node node = sym e ∙ is in cc)
      by_cell Mark e = at_end (rw e tt) (λ node is. let no : Mark ≡ Node node = sym e ∙ is in cc)
      by_cell (Node node) e = (
        record me.0 { trie = descending digest key p (level_at me.0.trie p) node me.0.trie },
        keeps,
        tt,
        descends s id me kept at lives settled place stays packet key p inside stands node e,
        told (record me.0 { trie = descending digest key p (level_at me.0.trie p) node me.0.trie }) (record {
          fits = fits;
          leads = λ other is.
              let same : node ≡ other = (let both : Node node ≡ Node other = sym e ∙ is in cc) in
              (shallow s id me kept at lives settled place stays packet key p inside stands node e, ap (λ x. with_trie me (descending digest key p (level_at me.0.trie p) x me.0.trie)) same);
          ends = λ end. absurd (rw e at end);
        }),
      )

  pub may_load_key : (st : Step (Running S)) (id n slot : ℕ) (way : Way) (place : ℕ) (me : Me (Running S) (CellView S A R)) → me.0.seats.lives ≡ true → 1 ≤ length me.0.seats.readers → place < 5 →
      Allows (IsCells m digest layout) n id me (field_at layout Slots slot (key_field way + place)) (λ x. x) (LoadsKey m digest layout slot way place st me)
  may_load_key st id n slot way place me lives seated short s kept homes at bound = (
    record me.0 { trie = reading me.0.trie },
    keeps,
    tt,
    load_step s (field_at layout Slots slot (key_field way + place)) id me.1 me.0 (reading me.0.trie) kept at (omega arith)
        (let fits = kept.trie.each id me.0 at in record {
          stands = fits.stands;
          leaf = fits.leaf;
          seen = fits.seen;
          claimed = fits.claimed;
        }) refl refl refl (record { rests = λ i dead bare rests. (rests, refl) })
        (alone_still me.0 (record me.0 { trie = reading me.0.trie }) (kept.alone id me.0 at) seated refl
        (λ none. record { stands = none.stands; leaf = none.leaf; seen = none.seen; meets = none.meets; answered = none.answered; locks = none.locks }))
        (marks_on m digest layout s kept (set s.words (field_at layout Slots slot (key_field way + place)) (slice_index s.words (field_at layout Slots slot (key_field way + place)))) id me.0
        (record me.0 { trie = reading me.0.trie }) at
        (words_loaded layout kept.published s.words (field_at layout Slots slot (key_field way + place))) (record {
          stands = λ point e. e;
          seen = λ x e. e;
          locks = refl;
          marks = refl;
          emptied = λ e is. is;
          met_mark = λ x is. is;
        }) refl (λ _. refl) refl),
    record {
      is = refl;
      stored = λ x e. (kept.stored id me.0 at).stands (field_at layout Slots slot (key_field way + place)) x e;
      shows = λ leaf e slots ways.
          let stays = (kept.trie.each id me.0 at).leaf leaf e in
          word_of layout s.words slot way place short ∙ ap (λ (key : Key). slice_index key.0 place) ((λ i. (trie_words layout s.words).key (sym slots i) (sym ways i)) ∙ stays.key);
      tells = record {
        state = s;
        rule = kept;
        seated = subst (λ i. get_elem? s.views i ≡ some me.0) (sym ((kept.seats.each id me.0.seats (at_map seat_side s.views id me.0 at)).lives lives).number) at;
        held = λ key holds.
            let is = (stands_at_end trie_side digest layout kept.published (state_of m kept.log) s.words s.views kept.trie (last_id (state_of m kept.log) slot) way key holds).says.key_is in
            (ap (λ (x : Key). length x.0) (sym is), word_of layout s.words slot way place short ∙ ap (λ (x : Key). slice_index x.0 place) is);
      };
    },
  )
