-- What the word of a node's lock says of who has it, and which words a store in a place of the trie leaves.
use Rattle.std.{specs.List.Contains, proofs.Common.{◌≡◌, ℕ, ◌+◌, ◌^◌, ◌<◌, ◌≤◌, List, set, slice_index, refl, ap, ◌∙◌, subst, arith}}
use Rattle.std.proofs.lemmas.List.{get_or-set_same}
use mathlib.Core.Option.{some}
use lib.ListN.{get_elem?}
use Rattle.atomic_table.specs.Table.{State}
use Rattle.npf_types.specs.declared.key.Key.{Key}
use Rattle.npf_core.specs.Meaning.{Meaning}
use Rattle.npf_paths.specs.{declared.place.{Lock.Lock, Place.Place}, Paths.{AreDigits, IsOnPath, IsOnPath.{at_root, further}}}
use Rattle.npf_paths.specs.declared.place.Lock.TheVariants as Locking
use Rattle.npf_cells_words.specs.{declared.layout.{Layout.Layout, Pool.Pool}, MarkWords.state_word, Places.{IsInTrie, IsPlaceIn, place_at}}
use Rattle.npf_cells_words.proofs.WordLemmas.{place_reach}
use Rattle.npf_seats.proofs.SumLemmas.{one_of_sum}
use Rattle.npf_cells_leaves.specs.Trie.{trie_words}
use Rattle.npf_cells_lives.specs.{Locks.{has_lock, held_in, lock_holders}, Stored.{IsOwnField, StoredWords}, Turns.Running}
use Rattle.npf_cells_lives.proofs.{StoredLemmas.{stored_kept, stored-set}, LockLemmas.has_once}
use Rattle.npf_cells_rule.specs.{declared.view.CellView.CellView, Cells.IsCells, Views.{lock_side, pool_side}}
use Rattle.npf_cells_holds.proofs.{PlaceLemmas.own_else, LockKeepLemmas.held_gone}

held_some : (state : ℕ) → 1 ≤ held_in state → (1 ≤ state) × (state < 2 ^ 63)
held_some state held = grind (arith, held)

module _ {S A R : Type 0} (m : Meaning S A R) (digest : Key → ℕ) (layout : Layout) (s : State (Running S) (CellView S A R)) (kept : IsCells m digest layout s) where
  counted_once : (j : ℕ) (u : CellView S A R) (lock : Lock) → get_elem? s.views j ≡ some u → Contains u.trie.locks lock → 1 ≤ lock_holders lock_side layout s.views lock
  counted_once j u lock e c =
      let mine = one_of_sum (λ (y : CellView S A R). has_lock layout lock y.trie.locks) s.views j u e in
      let one = has_once layout lock u.trie.locks c in
      omega (arith, mine, one)

  -- a node whose lock a pass has is neither free nor let go
  pub locked_state : (j : ℕ) (u : CellView S A R) (node : ℕ) → get_elem? s.views j ≡ some u → node < layout.nodes →
      Contains u.trie.locks (Locking.Node node) → (1 ≤ state_word layout s.words node) × (state_word layout s.words node < 2 ^ 63)
  locked_state j u node e exists c = held_some (state_word layout s.words node) (subst (λ x. 1 ≤ x) (kept.locks.says (Locking.Node node) exists) (counted_once j u (Locking.Node node) e c))

  -- nobody has the lock of one that was let go
  pub nobody_has : (node epoch : ℕ) → node < layout.nodes → state_word layout s.words node ≡ 2 ^ 63 + epoch →
      (j : ℕ) (u : CellView S A R) → get_elem? s.views j ≡ some u → ¬ (Contains u.trie.locks (Locking.Node node))
  nobody_has node epoch exists gone j u e c =
      let some' = counted_once j u (Locking.Node node) e c in
      let none : lock_holders lock_side layout s.views (Locking.Node node) ≡ 0 = kept.locks.says (Locking.Node node) exists ∙ (ap held_in gone ∙ held_gone epoch) in
      absurd (omega (arith, some', none))

  -- of nodes whose places paths meet, each was published
  pub met_listed : (digits : ℕ → ℕ) (level : ℕ) (q : Place) (n : ℕ) → AreDigits digits → IsOnPath digits (trie_words layout s.words).cell level q → IsPlaceIn n q → Contains kept.published n
  met_listed digits _ _ n are at_root within = absurd within
  met_listed digits level _ n are (further above q node on is) within = subst (Contains kept.published) within (kept.trie.nodes digits above q node are on is).published_once

  -- a store in a place
  module _ (p : Place) (inside : IsInTrie layout p) (value : ℕ) where
    abbrev words' : List ℕ
    words' = set s.words (place_at layout p) value

    pub stored_there : slice_index words' (place_at layout p) ≡ value
    stored_there = let reach = place_reach layout p inside in let long = kept.connections.reach in get_or-set_same s.words (place_at layout p) value 0 (omega (arith, reach, long))

    pub stored_stays : (digits : ℕ → ℕ) (level : ℕ) → AreDigits digits → IsOnPath digits (trie_words layout s.words).cell level p →
        (id : ℕ) (v w : CellView S A R) → get_elem? s.views id ≡ some v → w.pools.stored ≡ v.pools.stored →
        ((pool : Pool) (place field : ℕ) → IsOwnField layout v.pools pool place field → IsOwnField layout w.pools pool place field) → StoredWords pool_side layout words' (set s.views id w)
    stored_stays digits level are on id v w at same own = stored-set pool_side layout words' s.views id w
        (stored_kept layout s.words words' v.pools w.pools (kept.stored id v at) same own (own_else m digest layout s kept p inside value digits level are on id v at))
        (λ j u ne e. stored_kept layout s.words words' u.pools u.pools (kept.stored j u e) refl (λ pool place field own. own)
        (own_else m digest layout s kept p inside value digits level are on j u e))
