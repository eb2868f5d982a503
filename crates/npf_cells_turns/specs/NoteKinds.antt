-- What a load of a note under its slot's turn changes in the pass's own view, and what it tells.
use Rattle.std.specs.Prelude.{◌≡◌, ℕ, ◌↔◌, Some, None, Contains}
use Rattle.atomic_table.specs.Table.{Me, Step}
use Rattle.npf_types.specs.declared.key.Key.{Key}
use Rattle.npf_types.specs.declared.key.Way.{Way}
use Rattle.npf_core.specs.declared.conn_id.ConnId.{ConnId}
use Rattle.npf_core.specs.History.{state_of}
use Rattle.npf_core.specs.declared.stage.Stage.TheVariants.{Dead}
use Rattle.npf_core.specs.Machine.{stage_of, HoldsNone, HoldsSome}
use Rattle.npf_core.specs.Meaning.{Meaning}
use Rattle.npf_paths.specs.declared.place.Place.{Place}
use Rattle.npf_cells_words.specs.declared.layout.Layout.{Layout}
use Rattle.npf_cells_words.specs.declared.layout.Pool.TheVariants.{Slots}
use Rattle.npf_cells_words.specs.Codes.{place_code}
use Rattle.npf_cells_words.specs.Layout.{note_field, field_at}
use Rattle.npf_cells_words.specs.Places.{IsInTrie}
use Rattle.npf_cells_lives.specs.declared.turn.Turn.{Turn}
use Rattle.npf_cells_lives.specs.Notes.{with_said}
use Rattle.npf_cells_lives.specs.Turns.{Running}
use Rattle.npf_cells_rule.specs.declared.view.CellView.{CellView}
use Rattle.npf_cells_rule.specs.Stood.{StoodSo}
use Rattle.npf_cells_turns.specs.WordKinds.{ShowsNote, ShowsByTurn}

-- the pass knows what the note said
abbrev pub noting : {S A R F : Type 0} → ℕ → ℕ → Me F (CellView S A R) → Me F (CellView S A R)
noting field value me = (record me.0 { turn = with_said (Some (record { field = field; value = value })) me.0.turn }, me.1)

-- this number is that of a place of the trie
pub record NamesPlace (layout : Layout) (found : ℕ) : Type 0 where
  pub place : Place
  pub within : IsInTrie layout place
  pub names : found ≡ place_code place

-- by what a pass has seen the connection is Dead, and holds a key of that way where the note isn't 0, and the note names a place
pub record TellsKilledKey {S A R : Type 0} (m : Meaning S A R) (layout : Layout) (v : CellView S A R) (id : ConnId) (way : Way) (found : ℕ) : Type 0 where
  pub dead : stage_of (state_of m v.seats.history) id ≡ Dead
  pub zero : (found ≡ 0) ↔ HoldsNone (state_of m v.seats.history) id way
  pub named : HoldsSome (state_of m v.seats.history) id way → NamesPlace layout found

-- a note tells that under a turn by which the pass is ahead of none, of a connection that it killed and a way of which it didn't give the key up
abbrev pub ShowsKill : {S A R : Type 0} → Meaning S A R → Layout → CellView S A R → ℕ → Way → ℕ → Type 0
ShowsKill {S} m layout v slot way found = (turn : Turn S) (id : ConnId) → v.turn ≡ Some turn → turn.slot ≡ slot → turn.ahead ≡ None → Contains v.pools.kills id → id.slot ≡ slot → ¬ Contains v.pools.gave_up (record { id = id; way = way }) → TellsKilledKey m layout v id way found

-- the kind, as what it tells
pub record LoadsNote {S A R : Type 0} (m : Meaning S A R) (digest : Key → ℕ) (layout : Layout) (slot : ℕ) (way : Way) (step : Step (Running S)) (me : Me (Running S) (CellView S A R)) (found : ℕ) (next : Me (Running S) (CellView S A R)) : Type 0 where
  pub is : next ≡ noting (note_field way) found me
  pub noted : ShowsNote me.0.pools.notes Slots slot (note_field way) found
  pub by_turn : ShowsByTurn m digest layout me.0 Slots slot (note_field way) found
  pub by_kill : ShowsKill m layout me.0 slot way found
  pub stood : StoodSo m digest layout me.0 (field_at layout Slots slot (note_field way)) found
