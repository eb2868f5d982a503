-- What a pass stores in its own places before it puts something in the trie, and what it stored before of other words.
use Rattle.std.specs.Prelude.{◌≡◌, ◌≢◌, ℕ, ◌<◌, ◌==◌, List, Contains, if◌then◌else◌}
use Rattle.npf_types.specs.declared.key.Way.{Way}
use Rattle.npf_core.specs.declared.conn_id.ConnId.{ConnId}
use Rattle.npf_core.specs.Meaning.{Meaning}
use Rattle.npf_paths.specs.declared.cell.Cell.{Cell}
use Rattle.npf_paths.specs.declared.cell.Cell.TheVariants.{Empty}
use Rattle.npf_paths.specs.LevelLaw.{AreApart}
use Rattle.npf_cells_words.specs.declared.layout.Layout.{Layout}
use Rattle.npf_cells_words.specs.declared.layout.Pool.TheVariants.{Nodes}
use Rattle.npf_cells_rule.specs.declared.view.CellView.{CellView}
use Rattle.npf_cells_lives.specs.declared.pools.PoolSide.{PoolSide}
use Rattle.npf_cells_lives.specs.declared.pools.StoredWord.{StoredWord}
use Rattle.npf_cells_holds.specs.HoldKinds.{MayHoldSo}
use Rattle.npf_cells_words.specs.Layout.{connections_at, field_at}
use Rattle.npf_cells_lives.specs.Stored.{stored_value}

-- the pass may store a key of that way in the slot: it is building the slot's connection, and has seen it take none
pub record MayStoreKey {S A R : Type 0} (m : Meaning S A R) (v : CellView S A R) (slot : ℕ) (way : Way) : Type 0 where
  pub id : ConnId
  pub there : id.slot ≡ slot
  pub hold : MayHoldSo m v id way

-- the nodes are nodes of the table that the pass owns, none of them there twice
pub record HasNewNodes (layout : Layout) (side : PoolSide) (nodes : List ℕ) : Type 0 where
  pub exist : (node : ℕ) → Contains nodes node → node < layout.nodes
  pub owned : (node : ℕ) → Contains nodes node → Contains side.nodes node
  pub apart : AreApart nodes

-- the word is none of the first so many of these nodes
abbrev pub LiesOutside : Layout → ℕ → List ℕ → ℕ → Type 0
LiesOutside layout fields nodes word = (node field : ℕ) → Contains nodes node → field < fields → field_at layout Nodes node field ≢ word

-- what was stored of any word but those is what it was
abbrev pub KeepsOutside : Layout → ℕ → List ℕ → List StoredWord → List StoredWord → Type 0
KeepsOutside layout fields nodes old now = (word : ℕ) → LiesOutside layout fields nodes word → stored_value layout now word ≡ stored_value layout old word

-- what was stored of any word before those of the connections is what it was
abbrev pub KeepsNodes : Layout → List StoredWord → List StoredWord → Type 0
KeepsNodes layout old now = (word : ℕ) → word < connections_at layout → stored_value layout now word ≡ stored_value layout old word

-- the cell of a digit's place in a node that leads on at two digits, or at one that is both
abbrev pub forked_cell : ℕ → Cell → ℕ → Cell → ℕ → Cell
forked_cell mine leaf theirs other digit = if digit == mine then leaf else if digit == theirs then other else Empty
