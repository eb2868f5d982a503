-- The state of a node that a pass got back is freed, and the rule is kept: the node is one of the pass's own.
use Rattle.std.specs.List.{Contains}
use Rattle.std.proofs.Common.{◌≡◌, ◌≢◌, ℕ, ◌+◌, ◌%◌, ◌<◌, ◌≤◌, List, [], ◌∷◌, eqb, eq-eqb, ne_eqb, set, length, slice_index, refl, sym, ap, ◌∙◌, subst, ⊎_elim, arith, length-set}
use Rattle.std.proofs.lemmas.{Bool.cases_eq, List.{get_or-set_other, get_or-set_same}, Nat.Bits.bit_at-lt}
use mathlib.Core.Option.{some}
use lib.ListN.{get_elem?}
use Rattle.atomic_table.specs.Table.{Allows, Me, State, Step, keeps, stepped}
use Rattle.npf_types.specs.declared.key.{Key.Key, Way.Way}
use Rattle.npf_shelf.proofs.ListLemmas.{Contains-later}
use Rattle.npf_core.specs.{History.state_of, Machine.Machine, Meaning.Meaning}
use Rattle.npf_paths.specs.declared.place.{Lock.Lock, Place.Place}
use Rattle.npf_paths.specs.declared.place.Lock.TheVariants as Locking
use Rattle.npf_cells_words.specs.declared.layout.{Layout.Layout, Pool.{Pool, TheVariants.{Nodes, Slots}}}
use Rattle.npf_cells_words.specs.{Layout.{field_at, inc_field, key_field, parent_field, place_word, root_at}, MarkWords.state_word, Places.{lock_at, place_at}}
use Rattle.npf_cells_words.proofs.WordLemmas.{lock_behind, lock_reach, not_place, not_slot, parent_unlocked}
use Rattle.npf_seats.{specs.Sums.{occurs, others_than}, proofs.ListLemmas.{left_others, left_same, occurs-cons, one_where, stands_once}}
use Rattle.npf_seats.proofs.SumLemmas.{one_of_sum, sum-set, two_of_sum}
use Rattle.npf_cells_leaves.{specs.Trie.{Trie, TrieWords, key_word, trie_words}, proofs.TrieLemmas.{KeepsTrie, cell_kept, knows_same, trie_same}}
use Rattle.npf_cells_leaves.proofs.TakingOffLemmas.{other_listed, still_listed}
use Rattle.npf_cells_lives.specs.{Deaths.has_epoch, Locks.{Locks, held_in, lock_holders}, Pools.{Pools, node_owners, taken, unfreed_owners}}
use Rattle.npf_cells_lives.{specs.{Stored.{IsOwnField, StoredWords}, Turns.Running}, proofs.{LockLemmas.holders-set, PoolLemmas.pools-kept}}
use Rattle.npf_cells_lives.proofs.StoredLemmas.{no_lock, stored-set, stored_kept}
use Rattle.npf_cells_marks.{specs.Marks.Marks, proofs.ClearingLemmas.marks-regained}
use Rattle.npf_cells_rule.specs.{declared.view.CellView.CellView, Cells.{FitsAlone, IsCells}, Views.{lock_side, mark_side, pool_side, trie_side, with_pools}}
use Rattle.npf_cells_rule.proofs.{Frames.{alone_still, epochs_apart}, MarkFrames.lock_changed}
use Rattle.npf_cells_returns.{specs.MarkKinds.{FreesNode, freeing_node}, proofs.BackFrames.{LeavesLives, back_step, below, same_leaves}}

-- nobody has a lock whose state has an epoch
unheld : (state : ℕ) → has_epoch state ≡ 1 → held_in state ≡ 0
unheld state gone = grind (arith, gone)

module _ {S A R : Type 0} (m : Meaning S A R) (digest : Key → ℕ) (layout : Layout) where
  module _ (s : State (Running S) (CellView S A R)) (id : ℕ) (me : Me (Running S) (CellView S A R)) (kept : IsCells m digest layout s)
      (at : get_elem? s.views id ≡ some me.0) (place : 1 ≤ length me.0.seats.readers)
      (node : ℕ) (exists : node < layout.nodes) (mine : Contains me.0.pools.unfreed node) where
    abbrev k : Machine S
    k = state_of m kept.log

    abbrev word : ℕ
    word = lock_at layout (Locking.Node node)

    abbrev words' : List ℕ
    words' = set s.words word 0

    abbrev t : TrieWords
    t = trie_words layout s.words

    abbrev t' : TrieWords
    t' = trie_words layout words'

    abbrev w : CellView S A R
    w = (with_pools me (freeing_node node me.0.pools)).0

    abbrev views' : List (CellView S A R)
    views' = set s.views id w

    other_word : (j : ℕ) → j ≢ word → slice_index words' j ≡ slice_index s.words j
    other_word j ne = get_or-set_other s.words word j 0 0 ne

    freed_word : slice_index words' word ≡ 0
    freed_word = let reach = lock_reach layout (Locking.Node node) exists in let long = kept.connections.reach in get_or-set_same s.words word 0 0 (omega (arith, reach, long))

    -- the node is taken once, so this pass alone got it back, and it isn't published
    once : node_owners pool_side s.views node + unfreed_owners pool_side s.views node + occurs node kept.published ≤ 1
    once =
        let bit = kept.pools.bits Nodes node exists in
        let low = bit_at-lt (slice_index s.words (place_word layout Nodes node)) (node % 64) in
        omega (arith, bit, low)

    owned : occurs node me.0.pools.unfreed ≤ unfreed_owners pool_side s.views node
    owned = one_of_sum (λ (u : CellView S A R). occurs node u.pools.unfreed) s.views id me.0 at

    unlisted : ¬ (Contains kept.published node)
    unlisted c =
        let most = once in
        let part = owned in
        let one = stands_once node me.0.pools.unfreed mine in
        let two = stands_once node kept.published c in
        absurd (omega (arith, most, part, one, two))

    others_not : (j : ℕ) (u : CellView S A R) → j ≢ id → get_elem? s.views j ≡ some u → ¬ (Contains u.pools.unfreed node)
    others_not j u ne e c =
        let most = once in
        let both = two_of_sum (λ (y : CellView S A R). occurs node y.pools.unfreed) s.views j id u me.0 e at ne in
        let one = stands_once node me.0.pools.unfreed mine in
        let two = stands_once node u.pools.unfreed c in
        absurd (omega (arith, most, both, one, two))

    taken_still : (pool : Pool) (q : ℕ) → taken pool_side kept.published k views' pool q ≡ taken pool_side kept.published k s.views pool q
    taken_still Slots q = refl
    taken_still Nodes q =
        let owners = sum-set (λ (u : CellView S A R). occurs q u.pools.nodes) s.views id me.0 w at in
        let back = sum-set (λ (u : CellView S A R). occurs q u.pools.unfreed) s.views id me.0 w at in
        let more = occurs-cons q node me.0.pools.nodes in
        ⊎_elim
        (λ (same : q ≡ node).
        let none : occurs q (others_than node me.0.pools.unfreed) ≡ 0 = ap (λ x. occurs x (others_than node me.0.pools.unfreed)) same ∙ left_same node me.0.pools.unfreed in
        let had : occurs q me.0.pools.unfreed ≡ 1 = ap (λ x. occurs x me.0.pools.unfreed) same ∙ (let most = once in
        let part = owned in let one = stands_once node me.0.pools.unfreed mine in omega (arith, most, part, one)) in
        let one : one_where (eqb node q) ≡ 1 = ap one_where (eq-eqb node q (sym same)) in
        omega (arith, owners, back, more, none, had, one))
        (λ (ne : q ≢ node).
        let left = left_others node q me.0.pools.unfreed ne in
        let none : one_where (eqb node q) ≡ 0 = ap one_where (ne_eqb node q (λ e. ne (sym e))) in
        omega (arith, owners, back, more, left, none))
        (cases_eq q node)

    leaves : LeavesLives me.0 w
    leaves = record {
      seats = refl;
      turn = refl;
      pin = refl;
      loaded = λ _. refl;
      builds = refl;
      unstored = refl;
      kills = refl;
      gave_up = refl;
      reclaims = refl;
      cleared = refl;
      dated = refl;
      notes = refl;
      answered = refl;
      leaf = refl;
    }

    slots : (slot field : ℕ) → field_at layout Slots slot field ≢ word
    slots slot field = not_slot layout slot field (Locking.Node node) exists

    low_words : (j : ℕ) → j < root_at layout → slice_index words' j ≡ slice_index s.words j
    low_words = below m digest layout s kept word 0 id me.0 w at leaves (lock_behind layout (Locking.Node node)) slots

    pools_after : Pools layout (taken pool_side kept.published k views') words'
    pools_after = pools-kept layout (taken pool_side kept.published k s.views) (taken pool_side kept.published k views') s.words words' kept.pools (length-set s.words word 0) low_words taken_still

    cell_still : (q : Place) → t'.cell q ≡ t.cell q
    cell_still q = cell_kept layout s.words words' q (λ there. other_word (place_at layout q) (not_place layout q (Locking.Node node) there exists))

    keeps_trie : KeepsTrie layout.slots k k t t'
    keeps_trie = record {
      holder = λ key. refl;
      claimed = λ conn c. c;
      cells = λ digits are level q on. cell_still q;
      parents = λ digits level q other are on is. other_word (field_at layout Nodes other parent_field) (parent_unlocked layout (Locking.Node node) other exists);
      dead = λ conn e. e;
      keys = λ slot way right i. record { 0 = key_same slot way 0 i ∷ key_same slot way 1 i ∷ key_same slot way 2 i ∷ key_same slot way 3 i ∷ key_same slot way 4 i ∷ [] };
      incs = λ slot way right. other_word (field_at layout Slots slot inc_field) (slots slot inc_field);
    }
      where
        key_same : (slot : ℕ) (way : Way) (i : ℕ) → key_word layout words' slot way i ≡ key_word layout s.words slot way i
        key_same slot way i = other_word (field_at layout Slots slot (key_field way + i)) (slots slot (key_field way + i))

    trie_after : Trie trie_side digest layout kept.published k words' views'
    trie_after = trie_same trie_side digest layout kept.published k k s.words words' s.views id me.0 w kept.trie at (knows_same me.0.trie) keeps_trie

    -- the pass owns one node more
    owns_more : (pool : Pool) (q field : ℕ) → IsOwnField layout me.0.pools pool q field → IsOwnField layout w.pools pool q field
    owns_more Slots q field own = own
    owns_more Nodes q field own = (Contains-later node q me.0.pools.nodes own.0, own.1, own.2, own.3)

    stored_stay : StoredWords pool_side layout words' views'
    stored_stay = stored-set pool_side layout words' s.views id w
        (stored_kept layout s.words words' me.0.pools w.pools (kept.stored id me.0 at) refl owns_more
        (λ pool q field own. other_word (field_at layout pool q field) (λ e. no_lock layout me.0.pools pool q field (Locking.Node node) own exists (sym e))))
        (λ j u ne e. stored_kept layout s.words words' u.pools u.pools (kept.stored j u e) refl (λ pool q field own. own)
        (λ pool q field own. other_word (field_at layout pool q field) (λ e'. no_lock layout u.pools pool q field (Locking.Node node) own exists (sym e'))))

    gone : has_epoch (state_word layout s.words node) ≡ 1
    gone = (kept.marks.unfreed id me.0 node at mine).1

    -- nobody had its lock, and nobody has
    held_still : (lock : Lock) → held_in (slice_index words' (lock_at layout lock)) ≡ held_in (slice_index s.words (lock_at layout lock))
    held_still lock = ⊎_elim
        (λ (same : lock_at layout lock ≡ word).
        let now : held_in (slice_index words' (lock_at layout lock)) ≡ 0 = ap (λ i. held_in (slice_index words' i)) same ∙ ap held_in freed_word in
        let was : held_in (slice_index s.words (lock_at layout lock)) ≡ 0 = ap (λ i. held_in (slice_index s.words i)) same ∙ unheld (state_word layout s.words node) gone in
        now ∙ sym was)
        (λ (ne : lock_at layout lock ≢ word). ap held_in (other_word (lock_at layout lock) ne))
        (cases_eq (lock_at layout lock) word)

    locks_stay : Locks lock_side layout words' views'
    locks_stay = record {
      says = λ lock h. holders lock ∙ (kept.locks.says lock h ∙ sym (held_still lock));
      bit = λ digit h. ⊎_elim
          (λ (same : lock_at layout (Locking.Root digit) ≡ word). subst (λ x. x < 2) (sym (ap (slice_index words') same ∙ freed_word)) (omega arith))
          (λ (ne : lock_at layout (Locking.Root digit) ≢ word). subst (λ x. x < 2) (sym (other_word (lock_at layout (Locking.Root digit)) ne)) (kept.locks.bit digit h))
          (cases_eq (lock_at layout (Locking.Root digit)) word);
      alone = λ lock h. subst (λ x. x ≤ 1) (sym (holders lock)) (kept.locks.alone lock h);
    }
      where
        holders : (lock : Lock) → lock_holders lock_side layout views' lock ≡ lock_holders lock_side layout s.views lock
        holders = holders-set lock_side layout s.views id me.0 w at refl

    marks_after : Marks mark_side layout kept.published words' views'
    marks_after = marks-regained mark_side layout kept.published s.words words' s.views id node me.0 w kept.marks at (record {
      changes = lock_changed layout s.words (Locking.Node node) 0 exists;
      mine = mine;
      stored = freed_word;
      unlisted = unlisted;
      alone = others_not;
      marks = refl;
      emptied = refl;
      met = refl;
      fewer = other_listed node me.0.pools.unfreed;
      freed = still_listed node me.0.pools.unfreed;
      locks = refl;
      loaded = refl;
      rests = record { rests = λ n rests. rests; protecting = refl };
    })

    fits_alone : FitsAlone w
    fits_alone = alone_still me.0 w (kept.alone id me.0 at) place refl (λ none. none)

    pub frees : IsCells m digest layout (stepped s word 0 id me.1 w keeps)
    frees = back_step m digest layout s kept word 0 id me.0 w at leaves (lock_behind layout (Locking.Node node)) slots kept.published me.1
        (epochs_apart m digest layout s word 0 id me.0 w kept at refl (λ j h. low_words j (omega (arith, h))))
        pools_after
        trie_after
        stored_stay
        locks_stay
        (same_leaves t.cell t'.cell cell_still)
        marks_after
        fits_alone

  pub may_free_node : (st : Step (Running S)) (id n node : ℕ) (me : Me (Running S) (CellView S A R)) → 1 ≤ length me.0.seats.readers → node < layout.nodes → Contains me.0.pools.unfreed node →
      Allows (IsCells m digest layout) n id me (lock_at layout (Locking.Node node)) (λ _. 0) (λ _. FreesNode node st me 0)
  may_free_node st id n node me place exists mine s kept homes at bound = (
    (with_pools me (freeing_node node me.0.pools)).0,
    keeps,
    tt,
    frees s id me kept at place node exists mine,
    record { is = refl },
  )
