-- A place that a path meets is of the root, or of a published node, which nobody owns.
use Rattle.std.{proofs.{Common.{◌≡◌, ◌⊎◌, ℕ, ◌+◌, ◌%◌, ◌<◌, slice_index, refl, inl, inr, arith}, lemmas.Nat.Bits.bit_at-lt}, specs.List.Contains}
use mathlib.Core.Option.{some}
use lib.ListN.{get_elem?}
use Rattle.atomic_table.specs.Table.{State}
use Rattle.npf_types.specs.declared.key.Key.{Key}
use Rattle.npf_core.specs.Meaning.{Meaning}
use Rattle.npf_paths.specs.{declared.place.Place.Place, Paths.{AreDigits, IsOnPath, IsOnPath.{at_root, further}}}
use Rattle.npf_cells_words.specs.{declared.layout.{Layout.Layout, Pool.TheVariants.Nodes}, Layout.{field_at, nodes_at, place_word}, Places.place_at}
use Rattle.npf_seats.{specs.Sums.occurs, proofs.{ListLemmas.stands_once, SumLemmas.one_of_sum}}
use Rattle.npf_cells_leaves.specs.Trie.{TrieWords, trie_words}
use Rattle.npf_cells_rule.specs.{declared.view.CellView.CellView, Cells.IsCells}
use Rattle.npf_cells_lives.specs.Turns.{Running}

module _ {S A R : Type 0} (m : Meaning S A R) (digest : Key → ℕ) (layout : Layout) (s : State (Running S) (CellView S A R)) (kept : IsCells m digest layout s) where
  abbrev t : TrieWords
  t = trie_words layout s.words

  -- a place that a path meets is of the root, or of a node that was published
  pub met_at : (digits : ℕ → ℕ) (level : ℕ) (p : Place) → AreDigits digits → IsOnPath digits t.cell level p →
      (place_at layout p < nodes_at layout) ⊎ ((node : ℕ) × (digit : ℕ) × (place_at layout p ≡ field_at layout Nodes node digit) × (digit < 16) × (node < layout.nodes) × Contains kept.published node)
  met_at digits level _ are at_root = inl (let low = are.root in omega (arith, low))
  met_at digits _ _ are (further level p node on is) =
      let right = kept.trie.nodes digits level p node are on is in
      inr (node, digits (level + 1), refl, are.node (level + 1) (omega arith), right.exists, right.published_once)

  -- nobody owns a published node
  pub unowned : (id : ℕ) (v : CellView S A R) (node : ℕ) → get_elem? s.views id ≡ some v → node < layout.nodes → Contains v.pools.nodes node → ¬ (Contains kept.published node)
  unowned id v node at within owns published =
      let bit = kept.pools.bits Nodes node within in
      let below = bit_at-lt (slice_index s.words (place_word layout Nodes node)) (node % 64) in
      let mine = one_of_sum (λ (u : CellView S A R). occurs node u.pools.nodes) s.views id v at in
      let one = stands_once node v.pools.nodes owns in
      let two = stands_once node kept.published published in
      absurd (omega (arith, bit, below, mine, one, two))
