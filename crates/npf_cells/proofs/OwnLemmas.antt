-- A pass of the table stays one through steps on what it knows of the trie, on locks, on slots and on its own words.
use Rattle.std.specs.List.{Contains}
use Rattle.std.proofs.Common.{◌≡◌, ◌≢◌, ℕ, ◌-◌, ◌/◌, ◌%◌, ◌^◌, Bool, true, false, cond, eqb, Option, Some, None, List, [], ◌∷◌, refl, sym, ap, ◌∙◌, subst, ◌||◌}
use Rattle.std.{specs.{Prelude.nat_lt, Int.bit_at}, proofs.lemmas.{Bool.Decides.{Decides-eqb, not_from_Decides}, List.Elements.Contains-append_right}}
use Rattle.atomic_table.specs.{Seated.TableId, Table.Me}
use Rattle.npf_types.specs.declared.key.Key.{Key}
use Rattle.npf_shelf.proofs.ListLemmas.{Contains-filter_parts, Contains-filter_from}
use Rattle.npf_core.specs.{declared.entry.Entry.Entry, Meaning.Meaning}
use Rattle.npf_paths.specs.declared.{cell.Cell.{Cell, TheVariants.{Empty, Leaf, Node, Mark}}, place.{Lock.Lock, Place.Place}}
use Rattle.npf_paths.specs.declared.place.Lock.TheVariants as Locking
use Rattle.npf_cells_words.specs.declared.{layout.{Layout.Layout, Pool.{Pool, TheVariants.{Slots, Nodes}}}, mark.Marked.Marked}
use Rattle.npf_cells_words.specs.{Layout.{notes_field, phase_field}, Places.lock_at}
use Rattle.npf_cells_leaves.specs.declared.trie.TrieSide.{TrieSide}
use Rattle.npf_cells_lives.specs.{declared.{pools.PoolSide.PoolSide, turn.Turn.Turn}, Deaths.has_epoch, Turns.Running}
use Rattle.npf_cells_rule.specs.{declared.view.CellView.CellView, Passes.{CarriesByTurn, IsPassOf, IsProtected}, Views.{with_pools, with_trie}}
use Rattle.npf_cells_rule.proofs.PassLemmas.{pools_on}
use Rattle.npf_cells_takes.specs.{PrivateKinds.{is_epoch_note, letting_go, noted_in, stored_in, storing, with_phase}, SlotKinds.{HasClaimed, HasSeenSlots}}
use Rattle.npf_cells_turns.proofs.PassOnLemmas.{turned_on}
use Rattle.npf_cells_holds.{specs.{LockKinds.{locking, locks_but, marks_but, unlocking}, LookKinds.{HasLooked, LooksAt}}, proofs.LockKeepLemmas.trie_on}

-- a turn whose phase was stored is carried as it was
phase_carries : {S F : Type 0} (value : ℕ) (turn : Option (Turn S)) (carried : List (ℕ × F)) → CarriesByTurn turn carried → CarriesByTurn (with_phase value turn) carried
phase_carries value None carried carries = carries
phase_carries value (Some turn) carried carries = carries

-- the marks that are left when a lock is freed have their locks
left_marked : (layout : Layout) (lock : Lock) (side : TrieSide) → ((x : Marked) → Contains side.marks x → Contains side.locks (Locking.Node x.node)) →
    (x : Marked) → Contains (marks_but layout lock side.marks) x → Contains (locks_but layout lock side.locks) (Locking.Node x.node)
left_marked layout lock side marked x c =
    let left = Contains-filter_parts (λ (y : Marked). cond (eqb (lock_at layout (Locking.Node y.node)) (lock_at layout lock)) false true) side.marks x c in
    Contains-filter_from (λ other. cond (eqb (lock_at layout other) (lock_at layout lock)) false true) side.locks (Locking.Node x.node) (marked x left.0) left.1

module _ {S A R : Type 0} (layout : Layout) (table seat seat' : TableId) (readers : List ℕ) (me next : Me (Running S) (CellView S A R))
    (own : IsPassOf layout table seat readers me) (same : seat' ≡ seat) where
  -- it knows something else of the trie, with the same locks, marks and answers
  pub known_on : (side : TrieSide) → next ≡ with_trie me side → side.answered ≡ me.0.trie.answered →
      side.locks ≡ me.0.trie.locks → side.marks ≡ me.0.trie.marks → IsPassOf layout table seat' readers next
  known_on side is answered locks marks = trie_on layout table seat seat' readers me next side own same is (λ idle. answered ∙ own.unanswered idle) (λ idle. locks ∙ own.unlocked idle)
      (λ x c. subst (λ ls. Contains ls (Locking.Node x.node)) (sym locks) (own.marked x (subst (λ ms. Contains ms x) marks c)))

  -- in a stay it has seen another history, has other pools, and knows and has something else of the trie
  pub stays_on : (history : List (Entry S A R)) (pools : PoolSide) (side : TrieSide) →
      next ≡ (record me.0 { seats = record me.0.seats { history = history }; pools = pools; trie = side }, me.1) → IsProtected me.0.epochs.pin →
      ((x : Marked) → Contains side.marks x → Contains side.locks (Locking.Node x.node)) → IsPassOf layout table seat' readers next
  stays_on history pools side is stays marked = rw is (record {
    same = same ∙ own.same;
    words = own.words;
    carries = own.carries;
    sized = own.sized;
    lives = own.lives;
    theirs = own.theirs;
    owns = own.owns;
    place = own.place;
    most = own.most;
    reader = own.reader;
    epoch = own.epoch;
    unanswered = λ idle. absurd (subst IsProtected idle stays);
    unlocked = λ idle. absurd (subst IsProtected idle stays);
    marked = marked;
  })

  -- a lock that it tried to get
  pub tried_on : (lock : Lock) (found : ℕ) → (found ≡ 0 → next ≡ with_trie me (locking lock me.0.trie)) →
      (found ≢ 0 → next ≡ me) → IsProtected me.0.epochs.pin → IsPassOf layout table seat' readers next
  tried_on lock found won lost stays = by_test (eqb found 0) refl
    where
      by_test : (b : Bool) → eqb found 0 ≡ b → IsPassOf layout table seat' readers next
      by_test true e = stays_on me.0.seats.history me.0.pools (locking lock me.0.trie) (won ((Decides-eqb found 0).0 e)) stays
          (λ x c. Contains-append_right (lock ∷ []) me.0.trie.locks (Locking.Node x.node) (own.marked x c))
      by_test false e = known_on me.0.trie (lost (not_from_Decides _ (Decides-eqb found 0) e)) refl refl refl

  -- a lock whose state it stored
  pub state_on : (layout' : Layout) (lock : Lock) (state : ℕ) → next ≡ with_trie me (unlocking layout' lock state me.0.trie) → IsPassOf layout table seat' readers next
  state_on layout' lock state is = by_test ((eqb state 0) || (eqb (has_epoch state) 1)) is
    where
      freed : TrieSide
      freed = record me.0.trie { locks = locks_but layout' lock me.0.trie.locks; marks = marks_but layout' lock me.0.trie.marks; emptied = None; met_mark = None }

      by_test : (b : Bool) → next ≡ with_trie me (cond b freed me.0.trie) → IsPassOf layout table seat' readers next
      by_test true is' = trie_on layout table seat seat' readers me next freed own same is' own.unanswered
          (λ idle. ap (locks_but layout' lock) (own.unlocked idle)) (left_marked layout' lock me.0.trie own.marked)
      by_test false is' = known_on me.0.trie is' refl refl refl

  -- a place at which it looked
  pub looked_on : (m : Meaning S A R) (digest : Key → ℕ) (layout' : Layout) (n : ℕ) (key : Key) (p : Place) (cell : Cell) →
      LooksAt m digest layout' n key p cell me next → IsProtected me.0.epochs.pin → IsPassOf layout table seat' readers next
  looked_on m digest layout' n key p cell looks stays = by_cell cell looks
    where
      ended : (c : Cell) → HasLooked m n key p c me next → IsPassOf layout table seat' readers next
      ended c has = stays_on next.0.seats.history me.0.pools _ has.is stays own.marked

      by_cell : (c : Cell) → LooksAt m digest layout' n key p c me next → IsPassOf layout table seat' readers next
      by_cell Empty at = ended Empty (at.ends tt)
      by_cell (Leaf slot way) at = ended (Leaf slot way) (at.ends tt)
      by_cell (Node node) at = known_on _ (at.leads node refl).1 refl refl refl
      by_cell Mark at = ended Mark (at.ends tt)

  -- a slot that it claimed, or saw claimed
  pub claimed_on : (m : Meaning S A R) (layout' : Layout) (n slot found : ℕ) → (bit_at found (slot % 64) ≡ 0 → HasClaimed m n slot me next) →
      (bit_at found (slot % 64) ≢ 0 → HasSeenSlots m layout' (slot / 64) found me next) →
      IsProtected me.0.epochs.pin → IsPassOf layout table seat' readers next
  claimed_on m layout' n slot found won lost stays = by_test (eqb (bit_at found (slot % 64)) 0) refl
    where
      by_test : (b : Bool) → eqb (bit_at found (slot % 64)) 0 ≡ b → IsPassOf layout table seat' readers next
      by_test true e = stays_on next.0.seats.history _ _ (won ((Decides-eqb (bit_at found (slot % 64)) 0).0 e)).is stays own.marked
      by_test false e = stays_on next.0.seats.history _ me.0.trie (lost (not_from_Decides _ (Decides-eqb (bit_at found (slot % 64)) 0) e)).is stays own.marked

  -- a word of its own in which it stored
  pub stored_on : (pool : Pool) (place field value : ℕ) → next ≡ stored_in pool place field value me → IsPassOf layout table seat' readers next
  stored_on Nodes place field value is = pools_on layout table seat seat' readers me next _ own same is
  stored_on Slots place field value is = by_phase (eqb field phase_field) is
    where
      one_of : (b : Bool) (x y : PoolSide) → next ≡ cond b (with_pools me x) (with_pools me y) → IsPassOf layout table seat' readers next
      one_of true x y is' = pools_on layout table seat seat' readers me next x own same is'
      one_of false x y is' = pools_on layout table seat seat' readers me next y own same is'

      by_note : (b : Bool) → next ≡ cond b (with_pools me (storing Slots place field value me.0.pools))
          (cond (is_epoch_note field value) (with_pools me (letting_go place (value - 2 ^ 63) me.0.pools)) (noted_in place field value me)) →
          IsPassOf layout table seat' readers next
      by_note true is' = pools_on layout table seat seat' readers me next _ own same is'
      by_note false is' = one_of (is_epoch_note field value) _ _ is'

      by_phase : (b : Bool) → next ≡ cond b (record me.0 { turn = with_phase value me.0.turn }, me.1)
          (cond (nat_lt field notes_field) (with_pools me (storing Slots place field value me.0.pools))
          (cond (is_epoch_note field value) (with_pools me (letting_go place (value - 2 ^ 63) me.0.pools)) (noted_in place field value me))) →
          IsPassOf layout table seat' readers next
      by_phase true is' = turned_on layout table seat readers me seat' next _ me.1 own same is' (phase_carries value me.0.turn me.1 own.carries)
      by_phase false is' = by_note (nat_lt field notes_field) is'
