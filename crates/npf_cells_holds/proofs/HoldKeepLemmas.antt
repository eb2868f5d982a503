-- Kind 11 for a key that is to be held keeps the rule, and tells what the key's path meets.
use Rattle.std.specs.List.{Contains}
use Rattle.std.proofs.Common.{◌≡◌, ℕ, ◌+◌, ◌≤◌, Bool, cond, true, false, true≢false, Some, List, [], ◌∷◌, ◌++◌, map, set, length, slice_index, refl, sym, ap, ◌∙◌, subst, ⊎_elim, inl, inr, length-set}
use Rattle.std.proofs.lemmas.List.{set-get_or}
use mathlib.Core.Option.{some}
use lib.ListN.{get_elem?}
use Rattle.atomic_table.{specs.{Seated.TableId, Table.{State, Me, Step, Allows, Act, Valid, carried_after, stepped, keeps}}, proofs.Lists.at_map}
use Rattle.npf_types.specs.declared.key.{Key.Key, Way.Way}
use Rattle.npf_shelf.proofs.OptionLemmas.{Some-injective}
use Rattle.npf_core.specs.declared.{act.Act.TheVariants.Hold, conn_id.ConnId.ConnId, entry.Entry.Entry, found.Found.Found, held.Held.Held}
use Rattle.npf_core.specs.{declared.{reply.Reply.TheVariants.ToHold, stage.Stage.TheVariants.Building}, History.{MayFollow, after, Legal, state_of}}
use Rattle.npf_core.specs.{Machine.{Machine, stage_of, IsClaimed, is_key}, Meaning.Meaning, NextState.holder_or, Replies.held_by}
use Rattle.npf_core.proofs.{EqualityLemmas.is_key-Decides, HistoryLemmas.{state_of-append, Legal-append}, HolderLemmas.{claimed_by, holders_claimed}}
use Rattle.npf_connections.specs.Adding.{AddsOwn}
use Rattle.npf_paths.specs.{declared.{cell.Cell.{Cell, TheVariants.{Empty, Leaf, Node, Mark}}, place.Place.Place}, CellWords.cell_of, Paths.IsOnPath}
use Rattle.npf_paths.specs.declared.place.Lock.TheVariants as Locking
use Rattle.npf_paths.specs.Paths.IsOnPath.{further}
use Rattle.npf_cells_words.{specs.{declared.layout.Layout.Layout, Places.{IsInTrie, place_at}}, proofs.WordLemmas.place_behind}
use Rattle.npf_seats.{specs.Seats.FitsSeats, proofs.PrefixLemmas.{cons_cases, none_listed}}
use Rattle.npf_cells_pins.proofs.EpochLemmas.{within_last}
use Rattle.npf_cells_leaves.specs.declared.trie.{LoadedLeaf.LoadedLeaf, PathPlace.PathPlace, TrieSide.TrieSide}
use Rattle.npf_cells_leaves.specs.Trie.{digits_of, TrieWords, trie_words, leaf_found, IsRightLeaf, StaysLeaf, FitsTrie, Trie}
use Rattle.npf_cells_leaves.proofs.TrieLemmas.{grown-set, KeepsTrie, knows_same, keeps_words, fits_kept, fits-set, fits_all, trie_kept, are_digits}
use Rattle.npf_cells_lives.{specs.{Conns.{inc_word, entry_seat}, Deaths.IsKeyless, Pools.taken}, proofs.BuiltLemmas.bare_in_log}
use Rattle.npf_cells_lives.proofs.{ConnLemmas.{BuildsIn, builds-kept, unstored-set}, DeathLemmas.{Spares, spares_held, RestsNoMore}}
use Rattle.npf_cells_lives.{proofs.PoolLemmas.{pools-same, taken-set}, specs.Turns.Running}
use Rattle.npf_cells_rule.specs.{declared.view.CellView.CellView, Cells.IsCells, Passes.{IsProtected, cell_pass, IsPassOf}}
use Rattle.npf_cells_rule.specs.Views.{seat_side, reader_view, with_trie, pool_side, trie_side, leaf_id, death_side}
use Rattle.npf_cells_rule.proofs.{DeathFrames.{rests_or_holds, holder_keyed}, EntryLemmas.{adds_entry, sole_entries}, Frames.{alone_within, entry_step}}
use Rattle.npf_cells_rule.proofs.PassLemmas.{pinned_in}
use Rattle.npf_cells_holds.specs.HoldKinds.{MayHoldSo, renewed, leaf_holder, meeting, taken_by, HasMetHolder, MeetsLeaf, HoldsAt, LoadsForHold}
use Rattle.npf_cells_holds.specs.LookKinds.{StandsOnPath, level_at, sighting, descending, FitsLayout}
use Rattle.npf_cells_holds.proofs.LookKeepLemmas.{load_step, on, shown, sees, marks_seen, marks_led, fits_table, shallow}

-- a hold of a key that has a holder changes no holder
holder_stays : {S : Type 0} (k : Machine S) (key : Key) (holder asks : Found) → k.holder key ≡ Some holder → (other : Key) → (same : Bool) →
    is_key key other ≡ same → cond same (holder_or (k.holder other) asks) (k.holder other) ≡ k.holder other
holder_stays k key holder asks held other true e =
    let is : k.holder other ≡ Some holder = ap k.holder (sym ((is_key-Decides key other).0 e)) ∙ held in
    ap (λ x. holder_or x asks) is ∙ sym is
holder_stays k key holder asks held other false e = refl

module _ {S A R : Type 0} (m : Meaning S A R) (digest : Key → ℕ) (layout : Layout) where
  module _ (s : State (Running S) (CellView S A R)) (id : ℕ) (me : Me (Running S) (CellView S A R)) (kept : IsCells m digest layout s) (at : get_elem? s.views id ≡ some me.0)
      (lives : me.0.seats.lives ≡ true) (settled : me.0.seats.theirs ≡ []) (place : 1 ≤ length me.0.seats.readers) (stays : IsProtected me.0.epochs.pin)
      (key : Key) (p : Place) (inside : IsInTrie layout p) (stands : StandsOnPath digest me.0.trie key p) where
    abbrev word : ℕ
    word = place_at layout p

    abbrev k : Machine S
    k = state_of m kept.log

    abbrev t : TrieWords
    t = trie_words layout s.words

    abbrev level : ℕ
    level = level_at me.0.trie p

    -- what the word says; where it is a mark, the path goes on to its node
    abbrev shows : Cell
    shows = cell_of (slice_index s.words word)

    here : IsOnPath (digits_of digest key) t.cell level p
    here = on m digest layout s id me kept at lives settled place stays 0 key p inside stands

    was : FitsTrie digest layout.slots k t me.0.trie
    was = kept.trie.each id me.0 at

    fits : FitsSeats entry_seat layout.slots (map seat_side s.views) kept.log id me.0.seats
    fits = kept.seats.each id me.0.seats (at_map seat_side s.views id me.0 at)

    -- a load that leaves the leaf, and forgets what was answered, rests on nothing more
    fewer_rests : (side : TrieSide) → side.answered ≡ [] → side.leaf ≡ me.0.trie.leaf → RestsNoMore k (death_side me.0) (death_side (record me.0 { trie = side }))
    fewer_rests side none same = rests_or_holds k (death_side me.0) (death_side (record me.0 { trie = side })) refl (λ i rests. ⊎_elim
        (λ (c : Contains side.answered i). absurd (none_listed i (subst (λ ids. Contains ids i) none c)))
        (λ (e : leaf_id side.leaf ≡ Some i). inl (inr (ap leaf_id (sym same) ∙ e)))
        rests)

    -- a node leads on
    pub leads : (node : ℕ) → shows ≡ Node node →
        IsCells m digest layout (stepped s word (slice_index s.words word) id me.1 (record me.0 { trie = descending digest key p level node (renewed me.0.trie) }) keeps)
    leads node is = load_step m digest layout s word id me.1 me.0 (descending digest key p level node (renewed me.0.trie)) kept at (place_behind layout p) (record {
      stands = λ point e. subst (λ (x : PathPlace). IsOnPath (digits_of digest x.key) t.cell x.level x.place) (Some-injective _ _ e)
          (further level p node here (shown m digest layout s id me kept at lives settled place stays 0 key p inside stands (Node node) is (λ no. absurd cc)));
      leaf = was.leaf;
      seen = sees m digest layout s id me kept at lives settled place stays 0 key p inside stands (Node node) is;
      claimed = λ i c. absurd (none_listed i c);
    }) refl refl refl (fewer_rests (descending digest key p level node (renewed me.0.trie)) refl refl)
        (alone_within (record me.0 { trie = descending digest key p level node (renewed me.0.trie) }) place stays)
        (marks_led m digest layout s id me kept at lives settled place stays 0 key p inside stands
        (record me.0 { trie = descending digest key p level node (renewed me.0.trie) }) node (digits_of digest key (level + 1)) is refl)

    -- where nothing stands only that is seen
    pub sights : IsCells m digest layout (stepped s word (slice_index s.words word) id me.1 (record me.0 { trie = sighting key level p shows (renewed me.0.trie) }) keeps)
    sights = load_step m digest layout s word id me.1 me.0 (sighting key level p shows (renewed me.0.trie)) kept at (place_behind layout p) (record {
      stands = was.stands;
      leaf = was.leaf;
      seen = sees m digest layout s id me kept at lives settled place stays 0 key p inside stands shows refl;
      claimed = λ i c. absurd (none_listed i c);
    }) refl refl refl (fewer_rests (sighting key level p shows (renewed me.0.trie)) refl refl) (alone_within (record me.0 { trie = sighting key level p shows (renewed me.0.trie) }) place stays)
        (marks_seen m digest layout s id me kept at lives settled place stays 0 key p inside stands (record me.0 { trie = sighting key level p shows (renewed me.0.trie) }) refl)

    module _ (slot : ℕ) (leaf_way : Way) (is : shows ≡ Leaf slot leaf_way) where
      abbrev leaf : LoadedLeaf
      leaf = record { slot = slot; way = leaf_way; key = t.key slot leaf_way; inc = t.inc slot }

      right : IsRightLeaf layout.slots k.holder t slot leaf_way
      right = kept.trie.leaves (digits_of digest key) level p slot leaf_way (are_digits digest key) here
          (shown m digest layout s id me kept at lives settled place stays 0 key p inside stands (Leaf slot leaf_way) is (λ no. absurd cc))

      leaf_stays : (x : LoadedLeaf) → Some leaf ≡ Some x → StaysLeaf layout.slots k t x
      leaf_stays x e = subst (StaysLeaf layout.slots k t) (Some-injective _ _ e) (record { right = inl right; key = refl; inc = refl })

      leaf_keyed : (i : ConnId) → leaf_id (Some leaf) ≡ Some i → ¬ (IsKeyless k i)
      leaf_keyed i e = subst (λ (x : ConnId). ¬ (IsKeyless k x)) (Some-injective _ _ e) (holder_keyed k (t.key slot leaf_way) (leaf_found t slot leaf_way) right.held)

      meeter_rests : RestsNoMore k (death_side me.0) (death_side (record me.0 { trie = meeting key p shows level leaf me.0.trie }))
      meeter_rests = rests_or_holds k (death_side me.0) (death_side (record me.0 { trie = meeting key p shows level leaf me.0.trie })) refl (λ i rests. inr (⊎_elim
          (λ (c : Contains [] i). absurd (none_listed i c))
          (λ (e : leaf_id (Some leaf) ≡ Some i). leaf_keyed i e)
          rests))

      -- the leaf of another key is met
      pub meets : IsCells m digest layout (stepped s word (slice_index s.words word) id me.1 (record me.0 { trie = meeting key p shows level leaf me.0.trie }) keeps)
      meets = load_step m digest layout s word id me.1 me.0 (meeting key p shows level leaf me.0.trie) kept at (place_behind layout p) (record {
        stands = was.stands;
        leaf = leaf_stays;
        seen = sees m digest layout s id me kept at lives settled place stays 0 key p inside stands shows refl;
        claimed = λ i c. absurd (none_listed i c);
      }) refl refl refl meeter_rests (alone_within (record me.0 { trie = meeting key p shows level leaf me.0.trie }) place stays)
          (marks_seen m digest layout s id me kept at lives settled place stays 0 key p inside stands (record me.0 { trie = meeting key p shows level leaf me.0.trie }) refl)

      module _ (conn : ConnId) (way : Way) (may : MayHoldSo m me.0 conn way) (same : is_key leaf.key key ≡ true) where
        abbrev entry : Entry S A R
        entry = record { seat = id; act = Hold conn key way; reply = ToHold (Held.Taken (leaf_holder leaf)) }

        abbrev k' : Machine S
        k' = after m k entry

        abbrev asker : CellView S A R
        asker = taken_by me.0 key p shows (kept.log ++ entry ∷ []) leaf

        held : k.holder key ≡ Some (leaf_holder leaf)
        held = ap k.holder (sym ((is_key-Decides leaf.key key).0 same)) ∙ right.held

        follows : MayFollow m layout.slots k entry
        follows = record {
          allowed = record {
            built = (kept.connections.each id me.0 at).building conn may.built;
            none = bare_in_log m layout.slots me.0.seats.history kept.log id conn way kept.connections.legal fits.seen
                (fits.lives lives).own ((kept.connections.each id me.0 at).building conn may.built) may.bare;
          };
          replied = ap (λ x. ToHold (held_by x)) (sym held);
        }

        -- the hold leaves the holders, and what is claimed
        keeps_trie : KeepsTrie layout.slots k k' t t
        keeps_trie = keeps_words layout k k' s.words s.words
            (λ other. holder_stays k key (leaf_holder leaf) (record { id = conn; way = way }) held other (is_key key other) refl)
            (λ i c. claimed_by m layout.slots k entry i follows (λ e. absurd cc) c)
            (λ i e. e)
            (λ j h. refl)

        asker_fits : FitsTrie digest layout.slots k' t asker.trie
        asker_fits = fits_kept digest layout.slots k k' t t keeps_trie asker.trie asker.trie (knows_same asker.trie) (record {
          stands = was.stands;
          leaf = leaf_stays;
          seen = sees m digest layout s id me kept at lives settled place stays 0 key p inside stands shows refl;
          claimed = λ i c. ⊎_elim
              (λ (e : (leaf_holder leaf).id ≡ i). subst (λ (x : ConnId). IsClaimed (stage_of k x)) e (holders_claimed m layout.slots kept.log kept.connections.legal key (leaf_holder leaf) held))
              (λ d. absurd (none_listed i d))
              (cons_cases (leaf_holder leaf).id i [] c);
        })

        trie_after : Trie trie_side digest layout kept.published k' s.words (set s.views id asker)
        trie_after = trie_kept trie_side digest layout kept.published k k' s.words s.words s.views (set s.views id asker) kept.trie keeps_trie (grown-set trie_side s.views id me.0 asker at refl refl)
            (fits-set trie_side digest layout.slots k' t s.views id asker asker_fits (fits_all trie_side digest layout.slots k k' t t s.views keeps_trie kept.trie.each))

        builds_after : BuildsIn pool_side k' (set s.views id asker)
        builds_after = builds-kept pool_side k' s.views id me.0 asker at refl refl (λ j v e. let b = kept.connections.each j v e in record { building = b.building; owing = b.owing; once = b.once })

        spares : Spares k k'
        spares = spares_held k k' (λ other. holder_stays k key (leaf_holder leaf) (record { id = conn; way = way }) held other (is_key key other) refl) (λ slot dead. refl)

        asker_rests : RestsNoMore k (death_side me.0) (death_side asker)
        asker_rests = rests_or_holds k (death_side me.0) (death_side asker) refl (λ i rests. inr (⊎_elim
            (λ (c : Contains ((leaf_holder leaf).id ∷ []) i). ⊎_elim
            (λ (e : (leaf_holder leaf).id ≡ i). leaf_keyed i (ap Some e))
            (λ d. absurd (none_listed i d))
            (cons_cases (leaf_holder leaf).id i [] c))
            (λ (e : leaf_id (Some leaf) ≡ Some i). leaf_keyed i e)
            rests))

        pub takes : IsCells m digest layout (stepped s word (slice_index s.words word) id me.1 asker keeps)
        takes =
            let words = set-get_or s.words word 0 in
            entry_step m digest layout s word (slice_index s.words word) id me.1 me.0 asker kept at lives place entry refl follows refl refl
            (kept.stored id me.0 at) refl refl (λ slot. inl refl) keeps_trie.holder refl spares (λ slot. refl) asker_rests refl (λ i c. c) (alone_within asker place stays)
            (record { before = λ j h. ap (λ ws. slice_index ws j) words; behind = λ j h. ap (λ ws. slice_index ws j) words })
            (pools-same layout (taken pool_side kept.published k s.views) (taken pool_side kept.published k' (set s.views id asker)) s.words (set s.words word (slice_index s.words word)) kept.pools
            (length-set s.words word (slice_index s.words word)) (λ j h. ap (λ ws. slice_index ws j) words) (taken-set pool_side kept.published k s.views id me.0 asker at refl refl))
            (subst (λ ws. Trie trie_side digest layout kept.published k' ws (set s.views id asker)) (sym words) trie_after)
            builds_after
            (λ slot h. ap (λ n. inc_word layout s.words slot + n) (unstored-set pool_side s.views id me.0 asker at refl slot) ∙ kept.connections.incs slot h)
            (marks_seen m digest layout s id me kept at lives settled place stays 0 key p inside stands asker refl)

        -- the hold ends what the pass has then seen
        pub has_met : HasMetHolder m conn key way p shows leaf me (asker, me.1)
        has_met =
            let there = at_map seat_side s.views id me.0 at in
            let number = (fits.lives lives).number in
            record {
              adds = subst (AddsOwn (cell_pass me.0) (kept.log ++ entry ∷ [])) (ap (λ n. record entry { seat = n } ∷ []) (sym number))
                  (adds_entry layout.slots kept.log (map seat_side s.views) id me.0 kept.seats there lives place entry refl);
              legal = record {
                legal = subst (λ slots. Legal m slots (kept.log ++ entry ∷ [])) (sym (fits.sized place)) (Legal-append m layout.slots kept.log entry kept.connections.legal follows);
                stays = λ i c. subst (λ n. IsClaimed (stage_of n i)) (sym (state_of-append m kept.log entry)) (asker_fits.claimed i c);
                building = λ i c. ap (λ n. stage_of n i) (state_of-append m kept.log entry) ∙ ((kept.connections.each id me.0 at).building i c ∙ ap (λ n. Building n) (sym number));
                unanswered = λ out. absurd (true≢false (sym (pinned_in me.0.epochs.pin stays) ∙ out));
                idle = λ out. absurd (true≢false (sym (pinned_in me.0.epochs.pin stays) ∙ out));
                alone = sole_entries layout.slots kept.log (map seat_side s.views) id me.0 kept.seats there lives place entry refl settled;
                most = within_last _ _ _ kept.epochs id (reader_view me.0) (at_map reader_view s.views id me.0 at);
              };
              is = refl;
            }

  pub may_load_for_hold : (st : Step (Running S)) (id n : ℕ) (conn : ConnId) (key : Key) (way : Way) (p : Place) (me : Me (Running S) (CellView S A R)) →
      IsInTrie layout p → me.0.seats.lives ≡ true → me.0.seats.theirs ≡ [] → 1 ≤ length me.0.seats.readers → IsProtected me.0.epochs.pin →
      StandsOnPath digest me.0.trie key p → MayHoldSo m me.0 conn way → Allows (IsCells m digest layout) n id me (place_at layout p) (λ x. x) (LoadsForHold m digest layout conn key way p st me)
  may_load_for_hold st id n conn key way p me inside lives settled place stays stands may s kept homes at bound = by_cell (cell_of (slice_index s.words (place_at layout p))) refl
    where
      number : ℕ
      number = slice_index s.words (place_at layout p)

      level' : ℕ
      level' = level_at me.0.trie p

      fits' : FitsLayout layout (cell_of number)
      fits' = fits_table m digest layout s id me kept at lives settled place stays 0 key p inside stands

      told : (w : CellView S A R) → HoldsAt m digest layout conn key way p (cell_of number) me (w, me.1) → LoadsForHold m digest layout conn key way p st me number (w, me.1)
      told w holds = record { holds = holds }

      Loaded : Type 0
      Loaded = (w : CellView S A R) × (a : Act (Running S)) × Valid s.homes me.1 a × IsCells m digest layout (stepped s (place_at layout p) number id me.1 w a) ×
          LoadsForHold m digest layout conn key way p st me number (w, carried_after me.1 a)

      at_nothing : ((slot : ℕ) (leaf_way : Way) → ¬ (cell_of number ≡ Leaf slot leaf_way)) → ((node : ℕ) → ¬ (cell_of number ≡ Node node)) → Loaded
      at_nothing no_leaf no_node = (
        record me.0 { trie = sighting key level' p (cell_of number) (renewed me.0.trie) },
        keeps,
        tt,
        sights s id me kept at lives settled place stays key p inside stands,
        told _ (record { fits = fits'; leads = λ node e. absurd (no_node node e); meets = λ slot leaf_way e. absurd (no_leaf slot leaf_way e); nothing = λ _. refl }),
      )

      at_leaf : (slot : ℕ) (leaf_way : Way) → cell_of number ≡ Leaf slot leaf_way → (w : CellView S A R) →
          MeetsLeaf m conn key way p (cell_of number) slot leaf_way me (w, me.1) → HoldsAt m digest layout conn key way p (cell_of number) me (w, me.1)
      at_leaf slot leaf_way e w met = record {
        fits = fits';
        leads = λ node is. let no : Leaf slot leaf_way ≡ Node node = sym e ∙ is in absurd cc;
        meets = λ slot' way' is.
            let both : Leaf slot leaf_way ≡ Leaf slot' way' = sym e ∙ is in
            let slots : slot ≡ slot' = cc in
            let ways : leaf_way ≡ way' = cc in
            subst (λ (x : ℕ × Way). MeetsLeaf m conn key way p (cell_of number) x.0 x.1 me (w, me.1)) (λ i. (slots i, ways i)) met;
        nothing = λ none. ⊎_elim (λ is. let no : Leaf slot leaf_way ≡ Empty = sym e ∙ is in absurd cc) (λ is. let no : Leaf slot leaf_way ≡ Mark = sym e ∙ is in absurd cc) none;
      }

      by_key : (slot : ℕ) (leaf_way : Way) (e : cell_of number ≡ Leaf slot leaf_way) (b : Bool) → is_key ((trie_words layout s.words).key slot leaf_way) key ≡ b → Loaded
      by_key slot leaf_way e true is = (
        asker s id me kept at lives settled place stays key p inside stands slot leaf_way e conn way may is,
        keeps,
        tt,
        takes s id me kept at lives settled place stays key p inside stands slot leaf_way e conn way may is,
        told _ (at_leaf slot leaf_way e _ (record {
          leaf = leaf s id me kept at lives settled place stays key p inside stands slot leaf_way e;
          is_leaf = record { slot_is = refl; way_is = refl; five = refl };
          same = λ _. has_met s id me kept at lives settled place stays key p inside stands slot leaf_way e conn way may is;
          other = λ no. absurd (true≢false (sym is ∙ no));
        })),
      )
      by_key slot leaf_way e false is = (
        record me.0 { trie = meeting key p (cell_of number) level' (leaf s id me kept at lives settled place stays key p inside stands slot leaf_way e) me.0.trie },
        keeps,
        tt,
        meets s id me kept at lives settled place stays key p inside stands slot leaf_way e,
        told _ (at_leaf slot leaf_way e _ (record {
          leaf = leaf s id me kept at lives settled place stays key p inside stands slot leaf_way e;
          is_leaf = record { slot_is = refl; way_is = refl; five = refl };
          same = λ same. absurd (true≢false (sym same ∙ is));
          other = λ _. refl;
        })),
      )

      by_cell : (c : Cell) → cell_of number ≡ c → Loaded
      by_cell Empty e = at_nothing (λ slot leaf_way is. let no : Empty ≡ Leaf slot leaf_way = sym e ∙ is in cc) (λ node is. let no : Empty ≡ Node node = sym e ∙ is in cc)
      by_cell Mark e = at_nothing (λ slot leaf_way is. let no : Mark ≡ Leaf slot leaf_way = sym e ∙ is in cc) (λ node is. let no : Mark ≡ Node node = sym e ∙ is in cc)
      by_cell (Leaf slot leaf_way) e = by_key slot leaf_way e (is_key ((trie_words layout s.words).key slot leaf_way) key) refl
      by_cell (Node node) e = (
        record me.0 { trie = descending digest key p level' node (renewed me.0.trie) },
        keeps,
        tt,
        leads s id me kept at lives settled place stays key p inside stands node e,
        told _ (record {
          fits = fits';
          leads = λ other is.
              let same : node ≡ other = (let both : Node node ≡ Node other = sym e ∙ is in cc) in
              (shallow m digest layout s id me kept at lives settled place stays 0 key p inside stands node e, ap (λ x. with_trie me (descending digest key p level' x (renewed me.0.trie))) same);
          meets = λ slot leaf_way is. let no : Node node ≡ Leaf slot leaf_way = sym e ∙ is in absurd cc;
          nothing = λ none. ⊎_elim (λ is. let no : Node node ≡ Empty = sym e ∙ is in absurd cc) (λ is. let no : Node node ≡ Mark = sym e ∙ is in absurd cc) none;
        }),
      )

  -- a pass in a stay that has seen more, and knows more of the trie under the same locks, is still one of the table
  pass_stays : (table seat : TableId) (readers : List ℕ) (me : Me (Running S) (CellView S A R)) (history : List (Entry S A R)) (side : TrieSide) →
      IsProtected me.0.epochs.pin → side.locks ≡ me.0.trie.locks → side.marks ≡ me.0.trie.marks → IsPassOf layout table seat readers me →
      IsPassOf layout table seat readers (record me.0 { seats = record me.0.seats { history = history }; trie = side }, me.1)
  pass_stays table seat readers me history side stays locks marks own = record {
    same = own.same;
    words = own.words;
    carries = own.carries;
    sized = own.sized;
    lives = own.lives;
    theirs = own.theirs;
    owns = own.owns;
    place = own.place;
    most = own.most;
    reader = own.reader;
    epoch = own.epoch;
    unanswered = λ idle. absurd (subst IsProtected idle stays);
    unlocked = λ idle. absurd (subst IsProtected idle stays);
    marked = λ mark c. subst (λ ls. Contains ls (Locking.Node mark.node)) (sym locks) (own.marked mark (subst (λ ms. Contains ms mark) marks c));
  }

  -- so is one that loaded a place to hold a key
  pub own_after : (table seat : TableId) (readers : List ℕ) (conn : ConnId) (key : Key) (way : Way) (p : Place) (cell : Cell) (old now : Me (Running S) (CellView S A R)) →
      IsProtected old.0.epochs.pin → IsPassOf layout table seat readers old →
      HoldsAt m digest layout conn key way p cell old now → IsPassOf layout table seat readers now
  own_after table seat readers conn key way p cell old now stays own holds = by_cell cell refl
    where
      with_side : (side : TrieSide) → side.locks ≡ old.0.trie.locks → side.marks ≡ old.0.trie.marks → now ≡ with_trie old side → IsPassOf layout table seat readers now
      with_side side locks marks is = subst (IsPassOf layout table seat readers) (sym is) (pass_stays table seat readers old old.0.seats.history side stays locks marks own)

      by_key : (slot : ℕ) (leaf_way : Way) (met : MeetsLeaf m conn key way p cell slot leaf_way old now) (b : Bool) → is_key met.leaf.key key ≡ b → IsPassOf layout table seat readers now
      by_key slot leaf_way met true e = subst (IsPassOf layout table seat readers) (sym (met.same e).is)
          (pass_stays table seat readers old now.0.seats.history (taken_by old.0 key p cell now.0.seats.history met.leaf).trie stays refl refl own)
      by_key slot leaf_way met false e = with_side _ refl refl (met.other e)

      by_cell : (c : Cell) → cell ≡ c → IsPassOf layout table seat readers now
      by_cell Empty e = with_side _ refl refl (holds.nothing (inl e))
      by_cell Mark e = with_side _ refl refl (holds.nothing (inr e))
      by_cell (Leaf slot leaf_way) e = let met = holds.meets slot leaf_way e in by_key slot leaf_way met (is_key met.leaf.key key) refl
      by_cell (Node node) e = with_side _ refl refl (holds.leads node e).1
