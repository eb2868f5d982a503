-- That each of these steps keeps the rule, and tells what it says, whatever else passes do.
use Rattle.std.specs.Prelude.{◌≡◌, ℕ, ◌≤◌, ◌<◌, true, None, [], length, eqb}
use prog.Atomic.{either}
use Rattle.atomic_table.specs.Table.{Allows, Me, Step}
use Rattle.npf_types.specs.declared.key.Key.{Key}
use Rattle.npf_types.specs.declared.key.Way.{Way}
use Rattle.npf_core.specs.Meaning.{Meaning}
use Rattle.npf_cells_words.specs.declared.layout.Layout.{Layout}
use Rattle.npf_cells_words.specs.declared.layout.Pool.{Pool}
use Rattle.npf_cells_words.specs.declared.layout.Pool.TheVariants.{Slots}
use Rattle.npf_cells_words.specs.Layout.{turn_field, note_field, field_at}
use Rattle.npf_cells_lives.specs.Turns.{Running}
use Rattle.npf_cells_rule.specs.declared.view.CellView.{CellView}
use Rattle.npf_cells_rule.specs.Cells.{IsCells}
use Rattle.npf_cells_turns.specs.declared.act.TurnAct.{TurnAct}
use Rattle.npf_cells_turns.specs.EndKinds.{MayEndBy, EndsTurn}
use Rattle.npf_cells_turns.specs.NoteKinds.{LoadsNote}
use Rattle.npf_cells_turns.specs.SightKinds.{Sees}
use Rattle.npf_cells_turns.specs.TurnKinds.{TriesTurn, HasSlotTurn}
use Rattle.npf_cells_turns.specs.WordKinds.{LoadsWord}

-- a try of a turn, its end, a load after which all of the history is seen, loads of words of nodes and of connections, and one of a note under
-- its slot's turn keep the rule, and tell what they say
pub record KeepsTurns {S A R : Type 0} (m : Meaning S A R) (digest : Key → ℕ) (layout : Layout) : Type 0 where
  pub sees : (st : Step (Running S)) (id n i : ℕ) (me : Me (Running S) (CellView S A R)) → me.0.seats.lives ≡ true → me.0.seats.theirs ≡ [] → 1 ≤ length me.0.seats.readers → Allows (IsCells m digest layout) n id me i (λ k. k) (Sees m st me)
  pub loads_word : (st : Step (Running S)) (id n : ℕ) (pool : Pool) (place field : ℕ) (me : Me (Running S) (CellView S A R)) → me.0.seats.lives ≡ true → Allows (IsCells m digest layout) n id me (field_at layout pool place field) (λ k. k) (LoadsWord m digest layout pool place field st me)
  pub loads_note : (st : Step (Running S)) (id n slot : ℕ) (way : Way) (me : Me (Running S) (CellView S A R)) → me.0.seats.lives ≡ true → 1 ≤ length me.0.seats.readers → slot < layout.slots → HasSlotTurn me.0 slot → Allows (IsCells m digest layout) n id me (field_at layout Slots slot (note_field way)) (λ k. k) (LoadsNote m digest layout slot way st me)
  pub takes : (st : Step (Running S)) (id n slot : ℕ) (me : Me (Running S) (CellView S A R)) → me.0.seats.lives ≡ true → 1 ≤ length me.0.seats.readers → slot < layout.slots → me.0.turn ≡ None → me.1 ≡ [] → Allows (IsCells m digest layout) n id me (field_at layout Slots slot turn_field) (λ k. either (eqb k 0) 1 k) (TriesTurn m digest layout slot st me)
  pub ends : (st : Step (Running S)) (id n slot : ℕ) (act : TurnAct S A) (me : Me (Running S) (CellView S A R)) → me.0.seats.lives ≡ true → me.0.seats.theirs ≡ [] → 1 ≤ length me.0.seats.readers → MayEndBy m act slot me → Allows (IsCells m digest layout) n id me (field_at layout Slots slot turn_field) (λ _. 0) (λ _. EndsTurn m act st me 0)
