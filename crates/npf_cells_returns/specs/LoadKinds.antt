-- What loads of a node's places, of its parent and of its state tell a pass that takes it off, or that gets it back.
use Rattle.std.specs.Prelude.{◌≡◌, ℕ, ◌-◌, ◌/◌, ◌%◌, ◌^◌, ◌<◌, ◌==◌, nat_lt, Option, Some, None, List, [], ◌∷◌, if◌then◌else◌}
use Rattle.atomic_table.specs.Table.{Me, Step}
use Rattle.npf_types.specs.declared.key.Key.{Key}
use Rattle.npf_core.specs.Meaning.{Meaning}
use Rattle.npf_paths.specs.declared.place.Place.{Place}
use Rattle.npf_paths.specs.declared.place.Place.TheVariants as Places
use Rattle.npf_cells_words.specs.declared.layout.Layout.{Layout}
use Rattle.npf_cells_words.specs.declared.layout.Pool.TheVariants.{Nodes}
use Rattle.npf_cells_words.specs.declared.mark.Emptied.{Emptied}
use Rattle.npf_cells_words.specs.declared.mark.MetMark.{MetMark}
use Rattle.npf_cells_words.specs.Layout.{field_at, parent_field, state_field}
use Rattle.npf_cells_words.specs.Places.{place_at}
use Rattle.npf_cells_leaves.specs.declared.trie.TrieSide.{TrieSide}
use Rattle.npf_cells_lives.specs.Turns.{Running}
use Rattle.npf_cells_rule.specs.declared.view.CellView.{CellView}
use Rattle.npf_cells_rule.specs.Stood.{StoodSo}
use Rattle.npf_cells_rule.specs.Views.{with_trie}

-- a word of a place, loaded under its lock: nothing stands there, or the mark of a node does
abbrev pub with_digit : Place → ℕ → Option Emptied → Option Emptied
with_digit p found None = None
with_digit (Places.Root digit) found (Some e) = Some e
with_digit (Places.Node node digit) found (Some e) = if e.node == node then (if found == 0 then Some (record e { digits = digit ∷ e.digits }) else Some e) else Some e

abbrev pub met_in : Place → ℕ → Option MetMark
met_in p found = if found % 4 == 3 then Some (record { node = found / 4; place = p; left = None }) else None

abbrev pub loading_cell : Place → ℕ → TrieSide → TrieSide
loading_cell p found side = record side { emptied = with_digit p found side.emptied; met_mark = met_in p found }

-- a parent word is remembered where it is that of the node that is found empty
abbrev pub with_parent : ℕ → ℕ → Option Emptied → Option Emptied
with_parent node found None = None
with_parent node found (Some e) = if e.node == node then Some (record e { parent = Some found }) else Some e

abbrev pub loading_parent : ℕ → ℕ → TrieSide → TrieSide
loading_parent node found side = record side { emptied = with_parent node found side.emptied }

-- and the epoch of a state, where it is that of the node whose mark was met
abbrev pub with_left : ℕ → ℕ → Option MetMark → Option MetMark
with_left node found None = None
with_left node found (Some x) = if x.node == node then Some (record x { left = if nat_lt found (2 ^ 63) then None else Some (found - 2 ^ 63) }) else Some x

abbrev pub loading_state : ℕ → ℕ → TrieSide → TrieSide
loading_state node found side = record side { met_mark = with_left node found side.met_mark }

-- the kinds, as what they tell. A mark says a node of the table
pub record LoadsCell {S A R : Type 0} (m : Meaning S A R) (digest : Key → ℕ) (layout : Layout) (p : Place) (step : Step (Running S)) (me : Me (Running S) (CellView S A R)) (found : ℕ) (next : Me (Running S) (CellView S A R)) : Type 0 where
  pub is : next ≡ with_trie me (loading_cell p found me.0.trie)
  pub exists : found % 4 ≡ 3 → found / 4 < layout.nodes
  pub stood : StoodSo m digest layout me.0 (place_at layout p) found

pub record LoadsParent {S A R : Type 0} (m : Meaning S A R) (digest : Key → ℕ) (layout : Layout) (node : ℕ) (step : Step (Running S)) (me : Me (Running S) (CellView S A R)) (found : ℕ) (next : Me (Running S) (CellView S A R)) : Type 0 where
  pub is : next ≡ with_trie me (loading_parent node found me.0.trie)
  pub stood : StoodSo m digest layout me.0 (field_at layout Nodes node parent_field) found

pub record LoadsState {S A R : Type 0} (m : Meaning S A R) (digest : Key → ℕ) (layout : Layout) (node : ℕ) (step : Step (Running S)) (me : Me (Running S) (CellView S A R)) (found : ℕ) (next : Me (Running S) (CellView S A R)) : Type 0 where
  pub is : next ≡ with_trie me (loading_state node found me.0.trie)
  pub stood : StoodSo m digest layout me.0 (field_at layout Nodes node state_field) found
