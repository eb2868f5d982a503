-- What the rule says of marks, of any key and any pass: a mark stands for a node in which nobody finds a key, and that isn't used again while a pass
-- may be in it.
use Rattle.std.specs.Prelude.{◌≡◌, ℕ, ◌+◌, ◌^◌, ◌≤◌, None}
use mathlib.Core.Option.{some}
use lib.ListN.{get_elem?}
use Rattle.atomic_table.specs.Table.{State}
use Rattle.npf_types.specs.declared.key.Key.{Key}
use Rattle.npf_core.specs.History.{state_of}
use Rattle.npf_core.specs.Meaning.{Meaning}
use Rattle.npf_paths.specs.declared.place.Place.{Place}
use Rattle.npf_paths.specs.Paths.{IsOnPath}
use Rattle.npf_cells_words.specs.declared.layout.Layout.{Layout}
use Rattle.npf_cells_words.specs.Layout.{epoch_word}
use Rattle.npf_cells_words.specs.MarkWords.{state_word, IsBareNode, IsMarkOf}
use Rattle.npf_cells_words.specs.Places.{IsInTrie}
use Rattle.npf_cells_leaves.specs.Trie.{digits_of, trie_words}
use Rattle.npf_cells_lives.specs.Turns.{Running}
use Rattle.npf_cells_marks.specs.Marks.{RestsIn}
use Rattle.npf_cells_rule.specs.declared.view.CellView.{CellView}
use Rattle.npf_cells_rule.specs.Cells.{IsCells}
use Rattle.npf_cells_rule.specs.Views.{mark_side}

-- a key whose path comes to a mark has no holder
abbrev pub MarksHoldNone : {S A R : Type 0} → Meaning S A R → Layout → Type 0
MarksHoldNone {S} {A} {R} m layout =
    (digest : Key → ℕ) (s : State (Running S) (CellView S A R)) (kept : IsCells m digest layout s) (key : Key) (level node : ℕ) (p : Place) → IsInTrie layout p → IsMarkOf layout s.words p node →
    IsOnPath (digits_of digest key) (trie_words layout s.words).cell level p → (state_of m kept.log).holder key ≡ None

-- nothing stands in the places of a node whose mark stands
abbrev pub MarkedNodesAreBare : {S A R : Type 0} → Meaning S A R → Layout → Type 0
MarkedNodesAreBare {S} {A} {R} m layout =
    (digest : Key → ℕ) (s : State (Running S) (CellView S A R)) (node : ℕ) (p : Place) → IsCells m digest layout s → IsInTrie layout p → IsMarkOf layout s.words p node → IsBareNode layout s.words node

-- while a pass may be in a node that was let go with an epoch, the table's epoch is at most one more, and so its mark can't be cleared
abbrev pub MarkedNodesHoldBack : {S A R : Type 0} → Meaning S A R → Layout → Type 0
MarkedNodesHoldBack {S} {A} {R} m layout =
    (digest : Key → ℕ) (s : State (Running S) (CellView S A R)) (j node epoch : ℕ) (v : CellView S A R) (p : Place) → IsCells m digest layout s → get_elem? s.views j ≡ some v → IsInTrie layout p → IsMarkOf layout s.words p node →
    state_word layout s.words node ≡ 2 ^ 63 + epoch → RestsIn (mark_side v) node → epoch_word s.words ≤ epoch + 1
