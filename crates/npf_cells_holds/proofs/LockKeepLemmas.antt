-- Kinds 13 and 14 keep the rule: a lock is tried, and the state of what a pass has locked is stored.
use Rattle.std.specs.List.{Contains}
use Rattle.std.proofs.Common.{◌≡◌, ◌≢◌, ℕ, ◌+◌, ◌^◌, ◌<◌, ◌≤◌, ◌==◌, ◌||◌, Bool, true, false, cond, None, eqb, eq-eqb, ne_eqb, List, [], ◌∷◌, map, set}
use Rattle.std.proofs.{Common.{length, slice_index, sum_by, refl, sym, ap, ◌∙◌, subst, ⊎_elim, inl, arith, length-set}, lemmas.Bool.cases_eq}
use Rattle.std.proofs.lemmas.List.{get_or-set_same, get_or-set_other}
use mathlib.Core.Option.{some}
use lib.ListN.{get_elem?}
use prog.Atomic.{either}
use Rattle.atomic_table.{specs.{Seated.TableId, Table.{State, Me, Act, Step, stepped, Allows, carried_after, Valid, keeps}}, proofs.Lists.exchanged}
use Rattle.npf_types.specs.declared.key.{Key.Key, Way.Way}
use Rattle.npf_shelf.proofs.ListLemmas.{Contains-filter_parts, Contains-filter_from}
use Rattle.npf_core.specs.{History.state_of, Machine.Machine, Meaning.Meaning}
use Rattle.npf_paths.specs.declared.place.Lock.{Lock}
use Rattle.npf_paths.specs.declared.place.Lock.TheVariants as Locking
use Rattle.npf_cells_words.specs.declared.{layout.{Layout.Layout, Pool.TheVariants.{Slots, Nodes}}, mark.Marked.Marked}
use Rattle.npf_cells_words.specs.{Layout.{inc_field, parent_field, key_field, field_at, notes_field, note_field}, Places.{lock_at, IsLockOf, place_at}}
use Rattle.npf_cells_words.proofs.WordLemmas.{lock_behind, lock_reach, not_place, not_slot, parent_unlocked}
use Rattle.npf_seats.{specs.Sums.{others_than, occurs}, proofs.ListLemmas.{one_where, occurs-cons, left_same, left_others}}
use Rattle.npf_seats.proofs.{PrefixLemmas.{none_listed, cons_cases}, SumLemmas.{sum-set, one_of_sum}}
use Rattle.npf_cells_pins.specs.declared.pin.Pin.TheVariants.{Idle}
use Rattle.npf_cells_leaves.specs.{declared.trie.TrieSide.TrieSide, Trie.{key_word, TrieWords, trie_words, FitsTrie}}
use Rattle.npf_cells_leaves.proofs.TrieLemmas.{grown-set, KeepsTrie, knows_same, cell_kept, trie_kept, fits_kept, fits-set, fits_all}
use Rattle.npf_cells_lives.specs.{declared.pools.PoolSide.PoolSide, Deaths.has_epoch, Locks.{has_lock, lock_holders, held_in, Locks}, Stored.FitsStored}
use Rattle.npf_cells_lives.proofs.{ConnLemmas.{builds-kept, unstored-set, conns-same}, DeathLemmas.{RestsNoMore, epoch_note}}
use Rattle.npf_cells_lives.proofs.{LockLemmas.{locks_alone, has_once}, NoteLemmas.same_ahead, StoredLemmas.{no_lock, stored_kept, stored-set}}
use Rattle.npf_cells_marks.{specs.{Marks.Marks, Steps.IsFreedBy}, proofs.StepLemmas.{marks-got, marks-freed}}
use Rattle.npf_cells_rule.specs.{declared.view.CellView.CellView, Cells.{FitsAlone, IsCells}, Passes.{IsPassOf, IsProtected}}
use Rattle.npf_cells_rule.{specs.Views.{with_trie, lock_side, mark_side, pool_side, trie_side, death_side}, proofs.DeathFrames.deaths_on}
use Rattle.npf_cells_rule.proofs.Frames.{alone_still, alone_within, private_step, turns_apart, notes_apart}
use Rattle.npf_cells_rule.proofs.{MarkFrames.{lock_changed, marks_on, meets_same, words_loaded}, StoodLemmas.stood_so}
use Rattle.npf_cells_holds.specs.LockKinds.{locking, locks_but, marks_but, unlocking, IsUnmarkedLock, LetsNodeGo, MayStoreState, TriesLock, StoresState}
use Rattle.npf_cells_holds.proofs.LookKeepLemmas.{load_step}
use Rattle.npf_cells_lives.specs.Turns.{Running}

-- a pass of the table stays one through a step that changes what it knows and has of the trie, where one that isn't pinned has nothing,
-- and the marks that are left have their locks
pub trie_on : {S A R : Type 0} (layout : Layout) (table seat seat' : TableId) (readers : List ℕ) (me next : Me (Running S) (CellView S A R)) (side : TrieSide) →
    IsPassOf layout table seat readers me → seat' ≡ seat → next ≡ with_trie me side → (me.0.epochs.pin ≡ Idle → side.answered ≡ []) → (me.0.epochs.pin ≡ Idle → side.locks ≡ []) →
    ((x : Marked) → Contains side.marks x → Contains side.locks (Locking.Node x.node)) → IsPassOf layout table seat' readers next
trie_on layout table seat seat' readers me next side own same is quiet free marked = rw is (record {
  same = same ∙ own.same;
  words = own.words;
  carries = own.carries;
  sized = own.sized;
  lives = own.lives;
  theirs = own.theirs;
  owns = own.owns;
  place = own.place;
  most = own.most;
  reader = own.reader;
  epoch = own.epoch;
  unanswered = quiet;
  unlocked = free;
  marked = marked;
})

-- so the trie stays what it is
lock_keeps : {S : Type 0} (layout : Layout) (k : Machine S) (words : List ℕ) (lock : Lock) (n : ℕ) → IsLockOf layout lock →
    KeepsTrie layout.slots k k (trie_words layout words) (trie_words layout (set words (lock_at layout lock) n))
lock_keeps layout k words lock n exists = record {
  holder = λ key. refl;
  claimed = λ identity c. c;
  dead = λ identity e. e;
  cells = λ digits are level p on. cell_kept layout words _ p (λ h. other (place_at layout p) (not_place layout p lock h exists));
  parents = λ digits level p node are on is. other (field_at layout Nodes node parent_field) (parent_unlocked layout lock node exists);
  keys = λ slot way right. λ i. record { 0 = key_same slot way 0 i ∷ key_same slot way 1 i ∷ key_same slot way 2 i ∷ key_same slot way 3 i ∷ key_same slot way 4 i ∷ [] };
  incs = λ slot way right. other (field_at layout Slots slot inc_field) (not_slot layout slot inc_field lock exists);
}
  where
    other : (j : ℕ) → j ≢ lock_at layout lock → slice_index (set words (lock_at layout lock) n) j ≡ slice_index words j
    other j ne = get_or-set_other words (lock_at layout lock) j n 0 ne

    key_same : (slot : ℕ) (way : Way) (place : ℕ) → key_word layout (set words (lock_at layout lock) n) slot way place ≡ key_word layout words slot way place
    key_same slot way place = other (field_at layout Slots slot (key_field way + place)) (not_slot layout slot (key_field way + place) lock exists)

-- the locks but one lie in the words but one
but_words : (layout : Layout) (lock : Lock) (locks : List Lock) → map (lock_at layout) (locks_but layout lock locks) ≡ others_than (lock_at layout lock) (map (lock_at layout) locks)
but_words layout lock [] = refl
but_words layout lock (x ∷ xs) = by_test (but_words layout lock xs) (eqb (lock_at layout x) (lock_at layout lock))
  where
    by_test : map (lock_at layout) (locks_but layout lock xs) ≡ others_than (lock_at layout lock) (map (lock_at layout) xs) → (b : Bool) →
        map (lock_at layout) (cond (cond b false true) (x ∷ locks_but layout lock xs) (locks_but layout lock xs)) ≡ cond (cond b false true) (lock_at layout x ∷
        others_than (lock_at layout lock) (map (lock_at layout) xs)) (others_than (lock_at layout lock) (map (lock_at layout) xs))
    by_test rest true = rest
    by_test rest false = ap (λ ws. lock_at layout x ∷ ws) rest

-- who has a lock of these had it, and it is another
but_listed : (layout : Layout) (lock other : Lock) (locks : List Lock) → Contains (locks_but layout lock locks) other → Contains locks other × (other ≢ lock)
but_listed layout lock other locks c =
    let both = Contains-filter_parts _ locks other c in
    (both.0, λ same. absurd (let no : true ≡ false = sym both.1 ∙ ap (λ b. cond b false true) (eq-eqb (lock_at layout other) (lock_at layout lock) (ap (lock_at layout) same)) in cc))

-- another with another word is one of these
but_left : (layout : Layout) (lock other : Lock) (locks : List Lock) → Contains locks other → lock_at layout other ≢ lock_at layout lock → Contains (locks_but layout lock locks) other
but_left layout lock other locks c ne = Contains-filter_from _ locks other c (ap (λ b. cond b false true) (ne_eqb (lock_at layout other) (lock_at layout lock) ne))

-- so it is with marks
marks_listed : (layout : Layout) (lock : Lock) (x : Marked) (marks : List Marked) → Contains (marks_but layout lock marks) x → Contains marks x × (lock ≢ Locking.Node x.node)
marks_listed layout lock x marks c =
    let both = Contains-filter_parts _ marks x c in (
      both.0,
      λ same. absurd (let no : true ≡ false = sym both.1 ∙ ap (λ b. cond b false true) (eq-eqb (lock_at layout (Locking.Node x.node)) (lock_at layout lock) (ap (lock_at layout) (sym same))) in
          cc),
    )

marks_left : (layout : Layout) (lock : Lock) (x : Marked) (marks : List Marked) → Contains marks x →
    lock_at layout (Locking.Node x.node) ≢ lock_at layout lock → Contains (marks_but layout lock marks) x
marks_left layout lock x marks c ne = Contains-filter_from _ marks x c (ap (λ b. cond b false true) (ne_eqb (lock_at layout (Locking.Node x.node)) (lock_at layout lock) ne))

-- who has two locks of one word counts two
two_locks : (layout : Layout) (a b : Lock) (locks : List Lock) → Contains locks a → Contains locks b → a ≢ b → lock_at layout a ≡ lock_at layout b → 2 ≤ has_lock layout b locks
two_locks layout a b [] c d ne same = absurd (none_listed a c)
two_locks layout a b (x ∷ xs) c d ne same = ⊎_elim
    (λ (e : x ≡ a). ⊎_elim
    (λ (f : x ≡ b). absurd (ne (sym e ∙ f)))
    (λ d'. first (ap (lock_at layout) e ∙ same) (has_once layout b xs d'))
    (cons_cases x b xs d))
    (λ c'. ⊎_elim
    (λ (f : x ≡ b). first (ap (lock_at layout) f) (subst (λ n. 1 ≤ occurs n (map (lock_at layout) xs)) same (has_once layout a xs c')))
    (λ d'. (let more = occurs-cons (lock_at layout b) (lock_at layout x) (map (lock_at layout) xs) in let later = two_locks layout a b xs c' d' ne same in omega (arith, more, later)))
    (cons_cases x b xs d))
    (cons_cases x a xs c)
  where
    first : lock_at layout x ≡ lock_at layout b → 1 ≤ has_lock layout b xs → 2 ≤ has_lock layout b (x ∷ xs)
    first is later =
        let more = occurs-cons (lock_at layout b) (lock_at layout x) (map (lock_at layout) xs) in
        let one : one_where (eqb (lock_at layout x) (lock_at layout b)) ≡ 1 = ap one_where (eq-eqb (lock_at layout x) (lock_at layout b) is) in
        omega (arith, more, one, later)

-- a lock whose word is that of a node's lock is the node's
one_lock_of : (layout : Layout) (lock : Lock) (node : ℕ) → IsLockOf layout lock → lock_at layout (Locking.Node node) ≡ lock_at layout lock → lock ≡ Locking.Node node
one_lock_of layout (Locking.Root digit) node h e = absurd (omega (arith, h, e))
one_lock_of layout (Locking.Node other) node h e = ap (λ x. Locking.Node x) (omega (arith, e))

-- the side of a seat that freed a lock
abbrev letting : Layout → Lock → TrieSide → TrieSide
letting layout lock side = record side { locks = locks_but layout lock side.locks; marks = marks_but layout lock side.marks; emptied = None; met_mark = None }

-- the marks that are left have their locks
pub unlocking_marked : (layout : Layout) (lock : Lock) (state : ℕ) (side : TrieSide) → ((x : Marked) → Contains side.marks x → Contains side.locks (Locking.Node x.node)) →
    (x : Marked) → Contains (unlocking layout lock state side).marks x → Contains (unlocking layout lock state side).locks (Locking.Node x.node)
unlocking_marked layout lock state side locked = by_state ((state == 0) || (has_epoch state == 1))
  where
    by_state : (b : Bool) (x : Marked) → Contains (cond b (letting layout lock side) side).marks x → Contains (cond b (letting layout lock side) side).locks (Locking.Node x.node)
    by_state true x c = let both = Contains-filter_parts _ side.marks x c in Contains-filter_from _ side.locks (Locking.Node x.node) (locked x both.0) both.1
    by_state false x c = locked x c

-- a seat fits that has one more lock and forgets what it saw, and one that has a lock less
fits_locking : {S : Type 0} (digest : Key → ℕ) (slots : ℕ) (k : Machine S) (t : TrieWords) (lock : Lock) (side : TrieSide) →
    FitsTrie digest slots k t side → FitsTrie digest slots k t (locking lock side)
fits_locking digest slots k t lock side fits = record { stands = fits.stands; leaf = fits.leaf; seen = λ s e. absurd cc; claimed = fits.claimed }

fits_unlocking : {S : Type 0} (digest : Key → ℕ) (slots : ℕ) (k : Machine S) (t : TrieWords) (layout : Layout) (lock : Lock) (side : TrieSide) → FitsTrie digest slots k t side →
    FitsTrie digest slots k t (letting layout lock side)
fits_unlocking digest slots k t layout lock side fits = record {
  stands = fits.stands;
  leaf = fits.leaf;
  seen = λ s e. let was = fits.seen s e in record { on_path = was.on_path; locked = λ c. was.locked (but_listed layout lock _ side.locks c).0 };
  claimed = fits.claimed;
}

-- a state says that one has the lock at most; if one has, it has no epoch, and with an epoch nobody has
held_most : (n : ℕ) → held_in n ≤ 1
held_most n = grind arith

held_low : (n : ℕ) → held_in n ≡ 1 → n < 2 ^ 63
held_low n one = grind (arith, one)

pub held_gone : (epoch : ℕ) → held_in (2 ^ 63 + epoch) ≡ 0
held_gone epoch = grind arith

-- the part on locks after a step on the word of one, that changes who has this one alone
locks-set : {S A R : Type 0} (layout : Layout) (words : List ℕ) (views : List (CellView S A R)) (id : ℕ) (v w : CellView S A R) (lock : Lock) (n : ℕ) →
    Locks lock_side layout words views → get_elem? views id ≡ some v → lock_at layout lock < length words →
    lock_holders lock_side layout (set views id w) lock ≡ held_in n → ((digit : ℕ) → digit < 64 → lock_at layout (Locking.Root digit) ≡ lock_at layout lock → n < 2) →
    ((other : Lock) → lock_at layout other ≢ lock_at layout lock → has_lock layout other w.trie.locks ≡ has_lock layout other v.trie.locks) →
    Locks lock_side layout (set words (lock_at layout lock) n) (set views id w)
locks-set {S} {A} {R} layout words views id v w lock n kept at long here small others = record {
  says = λ other h. ⊎_elim
      (λ (e : lock_at layout other ≡ lock_at layout lock). by_word other e ∙ (here ∙ ap held_in (sym (there other e))))
      (λ (ne : lock_at layout other ≢ lock_at layout lock). same other ne ∙ (kept.says other h ∙ ap held_in (sym (elsewhere other ne))))
      (cases_eq (lock_at layout other) (lock_at layout lock));
  bit = λ digit h. ⊎_elim
      (λ (e : lock_at layout (Locking.Root digit) ≡ lock_at layout lock). subst (λ x. x < 2) (sym (there (Locking.Root digit) e)) (small digit h e))
      (λ (ne : lock_at layout (Locking.Root digit) ≢ lock_at layout lock). subst (λ x. x < 2) (sym (elsewhere (Locking.Root digit) ne)) (kept.bit digit h))
      (cases_eq (lock_at layout (Locking.Root digit)) (lock_at layout lock));
  alone = λ other h. ⊎_elim
      (λ (e : lock_at layout other ≡ lock_at layout lock). subst (λ x. x ≤ 1) (sym (by_word other e ∙ here)) (held_most n))
      (λ (ne : lock_at layout other ≢ lock_at layout lock). subst (λ x. x ≤ 1) (sym (same other ne)) (kept.alone other h))
      (cases_eq (lock_at layout other) (lock_at layout lock));
}
  where
    there : (other : Lock) → lock_at layout other ≡ lock_at layout lock → slice_index (set words (lock_at layout lock) n) (lock_at layout other) ≡ n
    there other e = ap (slice_index (set words (lock_at layout lock) n)) e ∙ get_or-set_same words (lock_at layout lock) n 0 long

    elsewhere : (other : Lock) → lock_at layout other ≢ lock_at layout lock → slice_index (set words (lock_at layout lock) n) (lock_at layout other) ≡ slice_index words (lock_at layout other)
    elsewhere other ne = get_or-set_other words (lock_at layout lock) (lock_at layout other) n 0 ne

    by_word : (other : Lock) → lock_at layout other ≡ lock_at layout lock → lock_holders lock_side layout (set views id w) other ≡ lock_holders lock_side layout (set views id w) lock
    by_word other e = ap (λ word. sum_by (λ (u : CellView S A R). occurs word (map (lock_at layout) u.trie.locks)) (set views id w)) e

    same : (other : Lock) → lock_at layout other ≢ lock_at layout lock → lock_holders lock_side layout (set views id w) other ≡ lock_holders lock_side layout views other
    same other ne =
        let more = sum-set (λ (u : CellView S A R). has_lock layout other u.trie.locks) views id v w at in
        let one = others other ne in
        omega (arith, more, one)

module _ {S A R : Type 0} (m : Meaning S A R) (digest : Key → ℕ) (layout : Layout) where
  module _ (s : State (Running S) (CellView S A R)) (id : ℕ) (me : Me (Running S) (CellView S A R)) (kept : IsCells m digest layout s)
      (at : get_elem? s.views id ≡ some me.0) (lock : Lock) (exists : IsLockOf layout lock) where
    abbrev word : ℕ
    word = lock_at layout lock

    abbrev words' : ℕ → List ℕ
    words' n = set s.words word n

    abbrev having : TrieSide → CellView S A R
    having side = record me.0 { trie = side }

    abbrev k : Machine S
    k = state_of m kept.log

    abbrev t' : ℕ → TrieWords
    t' n = trie_words layout (words' n)

    keeps_trie : (n : ℕ) → KeepsTrie layout.slots k k (trie_words layout s.words) (t' n)
    keeps_trie n = lock_keeps layout k s.words lock n exists

    -- a step on the word of the lock, after which the seat fits and is one of those that have it
    pub lock_step : (n : ℕ) (side : TrieSide) → side.grown ≡ me.0.trie.grown → side.regained ≡ me.0.trie.regained → RestsNoMore k (death_side me.0) (death_side (having side)) →
        FitsAlone (having side) → FitsTrie digest layout.slots k (t' n) side → lock_holders lock_side layout (set s.views id (having side)) lock ≡ held_in n →
        ((digit : ℕ) → digit < 64 → lock_at layout (Locking.Root digit) ≡ word → n < 2) →
        ((other : Lock) → lock_at layout other ≢ word → has_lock layout other side.locks ≡ has_lock layout other me.0.trie.locks) →
        Marks mark_side layout kept.published (words' n) (set s.views id (having side)) → IsCells m digest layout (stepped s word n id me.1 (having side) keeps)
    lock_step n side grown back less alone fits here small others marks =
        let w = having side in
        private_step m digest layout s word n id me.1 me.0 w kept at (lock_behind layout lock) refl refl refl refl refl (λ conn c. c) alone
        (trie_kept trie_side digest layout kept.published k k s.words (words' n) s.views (set s.views id w) kept.trie (keeps_trie n) (grown-set trie_side s.views id me.0 w at grown back)
        (fits-set trie_side digest layout.slots k (t' n) s.views id w fits (fits_all trie_side digest layout.slots k k (trie_words layout s.words) (t' n) s.views (keeps_trie n) kept.trie.each)))
        (conns-same pool_side m layout kept.log s.words (words' n) s.views (set s.views id w) kept.connections (length-set s.words word n)
        (λ slot h. get_or-set_other s.words word (field_at layout Slots slot inc_field) n 0 (not_slot layout slot inc_field lock exists))
        (builds-kept pool_side k s.views id me.0 w at refl refl kept.connections.each) (unstored-set pool_side s.views id me.0 w at refl))
        (stored-set pool_side layout (words' n) s.views id w (on me.0.pools (kept.stored id me.0 at)) (λ j u ne there. on u.pools (kept.stored j u there)))
        (locks-set layout s.words s.views id me.0 w lock n kept.locks at (let reach = lock_reach layout lock exists in
        let long = kept.connections.reach in omega (arith, reach, long)) here small others)
        (turns_apart m digest layout s word n id me.0 w k kept at refl refl (λ slot field h f. get_or-set_other s.words word
        (field_at layout Slots slot field) n 0 (not_slot layout slot field lock exists)) (λ slot. inl refl))
        (deaths_on m digest layout s word n id me.0 w kept at refl refl less
        (let same = get_or-set_other s.words word 0 n 0 (λ e. absurd (let far = lock_behind layout lock in omega (arith, e, far))) in omega (arith, same))
        (λ slot h. get_or-set_other s.words word (field_at layout Slots slot notes_field) n 0 (not_slot layout slot notes_field lock exists)))
        (notes_apart m digest layout s (words' n) id me.0 w k kept at (same_ahead me.0.turn me.0.turn refl) refl refl (λ i c. c) (record {
          cells = (keeps_trie n).cells;
          notes = λ slot way. get_or-set_other s.words word (field_at layout Slots slot (note_field way)) n 0 (not_slot layout slot (note_field way) lock exists);
          held = λ key found is. is;
          back = λ key found is. is;
          slots = λ slot. inl refl;
        }))
        marks
      where
        on : (pools : PoolSide) → FitsStored layout s.words pools → FitsStored layout (words' n) pools
        on pools h = stored_kept layout s.words (words' n) pools pools h refl (λ pool place field own. own)
            (λ pool place field own. get_or-set_other s.words word (field_at layout pool place field) n 0 (λ e. no_lock layout pools pool place field lock own exists (sym e)))

    -- what the seat knew still fits
    pub fits_still : (n : ℕ) → FitsTrie digest layout.slots k (t' n) me.0.trie
    fits_still n = fits_kept digest layout.slots k k (trie_words layout s.words) (t' n) (keeps_trie n) me.0.trie me.0.trie (knows_same me.0.trie) (kept.trie.each id me.0 at)

    holders_after : (side : TrieSide) →
        lock_holders lock_side layout (set s.views id (having side)) lock + has_lock layout lock me.0.trie.locks ≡ lock_holders lock_side layout s.views lock + has_lock layout lock side.locks
    holders_after side = sum-set (λ (u : CellView S A R). has_lock layout lock u.trie.locks) s.views id me.0 (having side) at

    pub stored_there : (n : ℕ) → slice_index (words' n) word ≡ n
    stored_there n = get_or-set_same s.words word n 0 (let reach = lock_reach layout lock exists in let long = kept.connections.reach in omega (arith, reach, long))

    -- the lock was free, and the pass has it
    pub got : IsProtected me.0.epochs.pin → 1 ≤ length me.0.seats.readers → slice_index s.words word ≡ 0 → IsCells m digest layout (stepped s word 1 id me.1 (having (locking lock me.0.trie)) keeps)
    got stays place free = lock_step 1 (locking lock me.0.trie) refl refl (record { rests = λ i dead bare rests. (rests, refl) })
        (alone_within (having (locking lock me.0.trie)) place stays) (fits_locking digest layout.slots k (t' 1) lock me.0.trie (fits_still 1))
        (let says = kept.locks.says lock exists in
        let after = holders_after (locking lock me.0.trie) in
        let more = occurs-cons word word (map (lock_at layout) me.0.trie.locks) in
        let one : one_where (eqb word word) ≡ 1 = ap one_where (eq-eqb word word refl) in
        let none : lock_holders lock_side layout s.views lock ≡ 0 = says ∙ ap held_in free in
        omega (arith, none, after, more, one)) (λ digit h e. omega arith)
        (λ other ne.
        let more = occurs-cons (lock_at layout other) word (map (lock_at layout) me.0.trie.locks) in
        let none : one_where (eqb word (lock_at layout other)) ≡ 0 = ap one_where (ne_eqb word (lock_at layout other) (λ e. ne (sym e))) in
        omega (arith, more, none))
        (marks-got mark_side layout kept.published s.words (words' 1) s.views id lock me.0 (having (locking lock me.0.trie)) kept.marks at (record {
          exists = exists;
          changes = lock_changed layout s.words lock 1 exists;
          free = free;
          taken = stored_there 1;
          marks = refl;
          emptied = refl;
          met = refl;
          unfreed = refl;
          locks = refl;
          loaded = refl;
          rests = record { rests = λ node rests. ⊎_elim (λ at_place. inl at_place) (λ none. absurd none) rests; protecting = refl };
        }))

    -- the pass that stores the state has the lock alone
    pub held : Contains me.0.trie.locks lock → (lock_holders lock_side layout s.views lock ≡ 1) × (has_lock layout lock me.0.trie.locks ≡ 1)
    held c =
        let most = kept.locks.alone lock exists in
        let mine = one_of_sum (λ (u : CellView S A R). has_lock layout lock u.trie.locks) s.views id me.0 at in
        let once = has_once layout lock me.0.trie.locks c in
        (omega (arith, most, mine, once), omega (arith, most, mine, once))

    -- it is protected
    pub locked_alone : (side : TrieSide) → 1 ≤ length me.0.seats.readers → Contains me.0.trie.locks lock → FitsAlone (having side)
    locked_alone side place c = alone_still me.0 (having side) (kept.alone id me.0 at) place refl (λ none. absurd (none_listed lock (subst (λ locks. Contains locks lock) none.locks c)))

    -- who has it has no other lock of its word
    other_word : (other : Lock) → Contains me.0.trie.locks lock → Contains me.0.trie.locks other → other ≢ lock → lock_at layout other ≢ word
    other_word other c has ne same = (let mine = (held c).1 in let two = two_locks layout other lock me.0.trie.locks has c ne same in absurd (omega (arith, mine, two)))

    -- the word says that one has it
    pub held_there : Contains me.0.trie.locks lock → slice_index s.words word < 2 ^ 63
    held_there c = held_low (slice_index s.words word) (sym (kept.locks.says lock exists) ∙ (held c).0)

    -- a node that the pass marked is another than that which the lock is of, if that is another lock
    other_node : (x : Marked) → Contains me.0.trie.marks x → lock ≢ Locking.Node x.node → lock_at layout (Locking.Node x.node) ≢ word
    other_node x c ne same = ne (one_lock_of layout lock x.node exists same)

    -- the part on marks, after the lock was freed or its node was let go
    marks_after : (state : ℕ) → IsFreedBy (mark_side me.0) lock state → Contains me.0.trie.locks lock →
        Marks mark_side layout kept.published (words' state) (set s.views id (having (letting layout lock me.0.trie)))
    marks_after state by c = marks-freed mark_side layout kept.published s.words (words' state) s.views id lock state me.0 (having (letting layout lock me.0.trie)) kept.marks at (record {
      exists = exists;
      changes = lock_changed layout s.words lock state exists;
      held = held_there c;
      stored = stored_there state;
      by = by;
      mine = c;
      alone = λ j u ne e theirs. locks_alone lock_side layout s.words s.views j id u me.0 lock kept.locks exists e at theirs c ne;
      fewer = λ other had. but_listed layout lock other me.0.trie.locks had;
      left = λ other had ne. but_left layout lock other me.0.trie.locks had (other_word other c had ne);
      marks = λ x had. marks_listed layout lock x me.0.trie.marks had;
      marked = λ x had ne. marks_left layout lock x me.0.trie.marks had (other_node x had ne);
      emptied = refl;
      met = refl;
      unfreed = refl;
      loaded = refl;
      rests = record { rests = λ node rests. rests; protecting = refl };
    })

    freed : (state : ℕ) → held_in state ≡ 0 → ((digit : ℕ) → digit < 64 → lock_at layout (Locking.Root digit) ≡ word → state < 2) →
        IsFreedBy (mark_side me.0) lock state → 1 ≤ length me.0.seats.readers → Contains me.0.trie.locks lock →
        IsCells m digest layout (stepped s word state id me.1 (having (letting layout lock me.0.trie)) keeps)
    freed state nobody small by place c =
        lock_step state (letting layout lock me.0.trie) refl refl (record { rests = λ i dead bare rests. (rests, refl) })
        (locked_alone (letting layout lock me.0.trie) place c) (fits_unlocking digest layout.slots k (t' state) layout lock me.0.trie (fits_still state))
        (let had = held c in
        let all = had.0 in
        let mine = had.1 in
        let after = holders_after (letting layout lock me.0.trie) in
        let left : has_lock layout lock (locks_but layout lock me.0.trie.locks) ≡ 0 =
        ap (occurs word) (but_words layout lock me.0.trie.locks) ∙ left_same word (map (lock_at layout) me.0.trie.locks) in
        omega (arith, all, mine, after, left, nobody)) small
        (λ other ne. ap (occurs (lock_at layout other)) (but_words layout lock me.0.trie.locks) ∙ left_others word (lock_at layout other) (map (lock_at layout) me.0.trie.locks) ne)
        (marks_after state by c)

    -- the state with an epoch is that of a node
    let_go : 1 ≤ length me.0.seats.readers → Contains me.0.trie.locks lock → (state : ℕ) → LetsNodeGo me.0 lock state →
        IsCells m digest layout (stepped s word (2 ^ 63 + me.0.epochs.loaded) id me.1 (having (letting layout lock me.0.trie)) keeps)
    let_go place c state goes = freed (2 ^ 63 + me.0.epochs.loaded) (held_gone me.0.epochs.loaded)
        (λ digit h e. absurd (let no : Locking.Root digit ≡ Locking.Node goes.mark.node = one_lock_of layout (Locking.Root digit) goes.mark.node h (sym (e ∙ ap (lock_at layout) goes.lock_is)) in cc))
        (IsFreedBy.let_go goes.mark goes.mine goes.placed goes.lock_is goes.loaded) place c

    pub stores_state : (state : ℕ) → 1 ≤ length me.0.seats.readers → Contains me.0.trie.locks lock → MayStoreState me.0 lock state →
        IsCells m digest layout (stepped s word state id me.1 (having (unlocking layout lock state me.0.trie)) keeps)
    stores_state state place c may = ⊎_elim
        (λ (free : (state ≡ 0) × IsUnmarkedLock me.0.trie.marks lock). subst (λ n. IsCells m digest layout (stepped s word n id me.1 (having (unlocking layout lock n me.0.trie)) keeps)) (sym free.0)
        (freed 0 refl (λ digit h e. omega arith) (IsFreedBy.freed free.1) place c))
        (λ (goes : LetsNodeGo me.0 lock state). subst (λ n. IsCells m digest layout (stepped s word n id me.1 (having (unlocking layout lock n me.0.trie)) keeps)) (sym goes.epoch)
        (subst (λ side. IsCells m digest layout (stepped s word (2 ^ 63 + me.0.epochs.loaded) id me.1 (having side) keeps)) (sym unlocked) (let_go place c state goes)))
        may
      where
        by_zero : (b : Bool) → cond (b || true) (letting layout lock me.0.trie) me.0.trie ≡ letting layout lock me.0.trie
        by_zero true = refl
        by_zero false = refl

        unlocked : unlocking layout lock (2 ^ 63 + me.0.epochs.loaded) me.0.trie ≡ letting layout lock me.0.trie
        unlocked = ap (λ b. cond ((2 ^ 63 + me.0.epochs.loaded == 0) || (b == 1)) (letting layout lock me.0.trie) me.0.trie)
            (epoch_note me.0.epochs.loaded) ∙ by_zero (2 ^ 63 + me.0.epochs.loaded == 0)

  -- a try that makes the word of the lock this
  abbrev LockTry : (st : Step (Running S)) (id : ℕ) (lock : Lock) (me : Me (Running S) (CellView S A R)) (s : State (Running S) (CellView S A R)) → ℕ → Type 0
  LockTry st id lock me s n = (w : CellView S A R) × (a : Act (Running S)) × Valid s.homes me.1 a × IsCells m digest layout (stepped s (lock_at layout lock) n id me.1 w a)
      × TriesLock m digest layout lock st me (slice_index s.words (lock_at layout lock)) (w, carried_after me.1 a)

  pub may_lock : (st : Step (Running S)) (id n : ℕ) (lock : Lock) (me : Me (Running S) (CellView S A R)) → me.0.seats.lives ≡ true →
      1 ≤ length me.0.seats.readers → IsProtected me.0.epochs.pin → IsLockOf layout lock →
      Allows (IsCells m digest layout) n id me (lock_at layout lock) (λ x. either (eqb x 0) 1 x) (TriesLock m digest layout lock st me)
  may_lock st id n lock me lives place stays exists s kept homes at bound = exchanged (slice_index s.words (lock_at layout lock)) 0 1 (LockTry st id lock me s)
      (λ free. (
        record me.0 { trie = locking lock me.0.trie },
        keeps,
        tt,
        got s id me kept at lock exists stays place free,
        record { stood = stood_so m digest layout s id me.0 (lock_at layout lock) (lock_at layout lock) kept at lives refl; won = λ _. refl; lost = λ taken. absurd (taken free) },
      ))
      (λ taken. (
        me.0,
        keeps,
        tt,
        load_step m digest layout s (lock_at layout lock) id me.1 me.0 me.0.trie kept at (lock_behind layout lock)
            (kept.trie.each id me.0 at) refl refl refl (record { rests = λ i dead bare rests. (rests, refl) }) (kept.alone id me.0 at)
            (marks_on m digest layout s kept (set s.words (lock_at layout lock) (slice_index s.words (lock_at layout lock))) id me.0 me.0 at
            (words_loaded layout kept.published s.words (lock_at layout lock)) (meets_same me.0.trie) refl (λ _. refl) refl),
        record { stood = stood_so m digest layout s id me.0 (lock_at layout lock) (lock_at layout lock) kept at lives refl; won = λ free. absurd (taken free); lost = λ _. refl },
      ))

  pub may_store_state : (st : Step (Running S)) (id n : ℕ) (lock : Lock) (state : ℕ) (me : Me (Running S) (CellView S A R)) →
      1 ≤ length me.0.seats.readers → IsLockOf layout lock → Contains me.0.trie.locks lock → MayStoreState me.0 lock state →
      Allows (IsCells m digest layout) n id me (lock_at layout lock) (λ _. state) (λ _. StoresState layout lock state st me state)
  may_store_state st id n lock state me place exists has may s kept homes at bound = (
    record me.0 { trie = unlocking layout lock state me.0.trie },
    keeps,
    tt,
    stores_state s id me kept at lock exists state place has may,
    record { is = refl },
  )
