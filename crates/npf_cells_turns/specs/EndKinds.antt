-- What the end of a turn asks and tells, by what it does.
use Rattle.std.specs.Prelude.{◌≡◌, ℕ, ◌+◌, ◌^◌, ◌≤◌, Some, None, List, [], ◌∷◌, Contains}
use Rattle.atomic_table.specs.Table.{Me, Step}
use Rattle.npf_types.specs.declared.key.Way.{Way}
use Rattle.npf_core.specs.declared.act.Act.TheVariants as Acts
use Rattle.npf_core.specs.declared.act.Why.TheVariants as Reasons
use Rattle.npf_core.specs.declared.conn_id.ConnId.{ConnId}
use Rattle.npf_core.specs.declared.entry.Entry.{Entry}
use Rattle.npf_core.specs.declared.reply.Reply.TheVariants as Replies
use Rattle.npf_core.specs.declared.stage.Stage.{Stage}
use Rattle.npf_core.specs.declared.stage.Stage.TheVariants.{Vacant, Live, Dead}
use Rattle.npf_core.specs.Allowed.{IsDue}
use Rattle.npf_core.specs.History.{state_of}
use Rattle.npf_core.specs.Machine.{HoldsNone}
use Rattle.npf_core.specs.Meaning.{Meaning}
use Rattle.npf_core.specs.NextState.{stepped}
use Rattle.npf_core.specs.Replies.{step_answer}
use Rattle.npf_connections.specs.Adding.{AddsOwn}
use Rattle.npf_connections.specs.Answered.{without}
use Rattle.npf_connections.specs.Entries.{entry_of}
use Rattle.npf_connections.specs.Pass.{Pass, IsPass, Knows}
use Rattle.npf_cells_pins.specs.declared.pin.EpochSide.{EpochSide}
use Rattle.npf_cells_words.specs.Layout.{notes_field, note_field}
use Rattle.npf_cells_lives.specs.Notes.{notes_elsewhere}
use Rattle.npf_cells_lives.specs.declared.pools.PoolSide.{PoolSide}
use Rattle.npf_cells_lives.specs.declared.turn.Turn.{Turn}
use Rattle.npf_cells_lives.specs.Stored.{stored_but}
use Rattle.npf_cells_lives.specs.Turns.{Running, running, stage_phase}
use Rattle.npf_cells_rule.specs.declared.view.CellView.{CellView}
use Rattle.npf_cells_rule.specs.Passes.{cell_pass}
use Rattle.npf_cells_rule.specs.Views.{unloaded}
use Rattle.npf_cells_turns.specs.declared.act.TurnAct.{TurnAct}
use Rattle.npf_cells_turns.specs.declared.act.TurnAct.TheVariants.{Nothing, Start, Step as Steps, Abandoned, Expired, Reclaim}

-- what the act makes of the stage of the turn's slot
abbrev pub stage_by : {S A R : Type 0} → Meaning S A R → TurnAct S A → Stage S → Stage S
stage_by m Nothing stage = stage
stage_by m (Start id n init) stage = Live init 1
stage_by m (Steps id n way arg) stage = stepped m way arg.now stage
stage_by m (Abandoned id) stage = Dead
stage_by m (Expired id now) stage = Dead
stage_by m (Reclaim id) stage = Vacant

-- the pass is building the slot's connection, and has stored its incarnation
pub record BuildsThere {S A R : Type 0} (v : CellView S A R) (turn : Turn S) (id : ConnId) : Type 0 where
  pub built : Contains v.pools.builds id
  pub there : id.slot ≡ turn.slot
  pub stored : ¬ Contains v.pools.unstored id.slot

-- it has stored 0 as the note of each way of which the connection holds no key
abbrev pub HasBareNotes : {S A R : Type 0} → Meaning S A R → CellView S A R → ConnId → Type 0
HasBareNotes m v id = (way : Way) → HoldsNone (state_of m v.seats.history) id way → Contains v.pools.notes (record { slot = id.slot; field = note_field way; value = 0 })

-- the pass was answered the slot's connection in this stay, or is building it
pub record KnowsThere {S A R : Type 0} (v : CellView S A R) (turn : Turn S) (id : ConnId) : Type 0 where
  pub known : Knows (cell_pass v) id
  pub there : id.slot ≡ turn.slot

-- the connection was Live in the slot when the pass got the turn, and due at that time
pub record IsDueThere {S A R : Type 0} (m : Meaning S A R) (turn : Turn S) (id : ConnId) (now : ℕ) : Type 0 where
  pub there : id.slot ≡ turn.slot
  pub inc : turn.was.inc ≡ id.inc
  pub due : IsDue m now turn.was.stage

-- the connection was Dead in the slot when the pass got the turn, and nobody's; under this turn the pass loaded its first note, which has an
-- epoch, and it loaded an epoch of at least two more
pub record MayReclaim {S A R : Type 0} (v : CellView S A R) (turn : Turn S) (id : ConnId) : Type 0 where
  pub there : id.slot ≡ turn.slot
  pub inc : turn.was.inc ≡ id.inc
  pub dead : turn.was.stage ≡ Dead
  pub epoch : ℕ
  pub left : turn.said ≡ Some (record { field = notes_field; value = 2 ^ 63 + epoch })
  pub later : epoch + 2 ≤ v.epochs.loaded

-- what each act asks of who does it
abbrev pub MayAct : {S A R : Type 0} → Meaning S A R → CellView S A R → Turn S → TurnAct S A → Type 0
MayAct m v turn Nothing = Unit {0}
MayAct m v turn (Start id n init) = BuildsThere v turn id × HasBareNotes m v id
MayAct m v turn (Steps id n way arg) = KnowsThere v turn id
MayAct m v turn (Abandoned id) = BuildsThere v turn id × HasBareNotes m v id
MayAct m v turn (Expired id now) = IsDueThere m turn id now
MayAct m v turn (Reclaim id) = MayReclaim v turn id

-- a turn may be ended with an act where the pass may do it, carries the flow and count that it leaves, and has stored the phase that it leaves; it is
-- ahead of no note
pub record MayEndBy {S A R : Type 0} (m : Meaning S A R) (act : TurnAct S A) (slot : ℕ) (me : Me (Running S) (CellView S A R)) : Type 0 where
  pub turn : Turn S
  pub has : me.0.turn ≡ Some turn
  pub there : turn.slot ≡ slot
  pub may : MayAct m me.0 turn act
  pub carries : me.1 ≡ (turn.slot, running (stage_by m act turn.was.stage)) ∷ []
  pub phase : turn.phase ≡ stage_phase (stage_by m act turn.was.stage)
  pub settled : turn.ahead ≡ None

-- the entry of an act on a slot that was at this
abbrev pub act_entries : {S A R : Type 0} → Meaning S A R → Pass (Entry S A R) → Stage S → TurnAct S A → List (Entry S A R)
act_entries m pass was Nothing = []
act_entries m pass was (Start id n init) = entry_of pass (Acts.Start id n init) Replies.Nothing ∷ []
act_entries m pass was (Steps id n way arg) = entry_of pass (Acts.Step n id way arg.now) (Replies.ToStep (step_answer m way arg.now was)) ∷ []
act_entries m pass was (Abandoned id) = entry_of pass (Acts.Kill id Reasons.Abandoned) Replies.Nothing ∷ []
act_entries m pass was (Expired id now) = entry_of pass (Acts.Kill id (Reasons.Expired now)) Replies.Nothing ∷ []
act_entries m pass was (Reclaim id) = []

-- a connection that isn't built any more, and the words of its slot
abbrev pub without_build : ConnId → PoolSide → PoolSide
without_build id side = record side { builds = without id side.builds; stored = stored_but id.slot side.stored; notes = notes_elsewhere id.slot side.notes }

-- one that the pass killed, and hasn't let go
abbrev pub with_kill : ConnId → PoolSide → PoolSide
with_kill id side = record side { kills = id ∷ side.kills }

-- one that it reclaimed
abbrev pub with_reclaim : ConnId → PoolSide → PoolSide
with_reclaim id side = record side { reclaims = id ∷ side.reclaims }

-- a connection that is started or given up isn't built any more, and one that is given up or has expired is among the pass's kills
abbrev pub building_after : {S A : Type 0} → TurnAct S A → PoolSide → PoolSide
building_after Nothing side = side
building_after (Start id n init) side = without_build id side
building_after (Steps id n way arg) side = side
building_after (Abandoned id) side = with_kill id (without_build id side)
building_after (Expired id now) side = with_kill id side
building_after (Reclaim id) side = with_reclaim id side

-- who kills forgets the epoch that it loaded
abbrev pub epochs_after : {S A : Type 0} → TurnAct S A → EpochSide → EpochSide
epochs_after Nothing side = side
epochs_after (Start id n init) side = side
epochs_after (Steps id n way arg) side = side
epochs_after (Abandoned id) side = unloaded side
epochs_after (Expired id now) side = unloaded side
epochs_after (Reclaim id) side = side

-- the pass after an act: it has seen this history
abbrev pub acted : {S A R : Type 0} → TurnAct S A → CellView S A R → List (Entry S A R) → CellView S A R
acted act v history = record v { seats = record v.seats { history = history }; epochs = epochs_after act v.epochs; pools = building_after act v.pools; turn = None }

-- the pass made the act's entry, which ends its history
pub record HasActed {S A R : Type 0} (m : Meaning S A R) (act : TurnAct S A) (old now : Me (Running S) (CellView S A R)) : Type 0 where
  pub turn : Turn S
  pub has : old.0.turn ≡ Some turn
  pub adds : AddsOwn (cell_pass old.0) now.0.seats.history (act_entries m (cell_pass old.0) turn.was.stage act)
  pub legal : IsPass m (cell_pass old.0) → IsPass m (cell_pass now.0)
  pub is : now ≡ (acted act old.0 now.0.seats.history, [])

-- what the end of a turn tells: where the machine was asked for nothing, the pass has seen no more
abbrev pub TellsEnd : {S A R : Type 0} → Meaning S A R → TurnAct S A → Me (Running S) (CellView S A R) → Me (Running S) (CellView S A R) → Type 0
TellsEnd m Nothing old now = now ≡ (record old.0 { turn = None }, [])
TellsEnd m (Start id n init) old now = HasActed m (Start id n init) old now
TellsEnd m (Steps id n way arg) old now = HasActed m (Steps id n way arg) old now
TellsEnd m (Abandoned id) old now = HasActed m (Abandoned id) old now
TellsEnd m (Expired id time) old now = HasActed m (Expired id time) old now
TellsEnd m (Reclaim id) old now = now ≡ (record old.0 { pools = with_reclaim id old.0.pools; turn = None }, [])

-- the kind, as what it tells
pub record EndsTurn {S A R : Type 0} (m : Meaning S A R) (act : TurnAct S A) (step : Step (Running S)) (me : Me (Running S) (CellView S A R)) (value : ℕ) (next : Me (Running S) (CellView S A R)) : Type 0 where
  pub tells : TellsEnd m act me next
