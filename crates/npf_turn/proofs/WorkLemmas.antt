-- What a pass has while it works under a turn, and what is left when it has ended it.
use Rattle.std.proofs.Common.{◌≡◌, ℕ, true, Some, None, List, [], ◌∷◌, refl, sym, ap, ◌∙◌, subst, inl, inr, IsTrue, Contains}
use denote.Bor.{Bor}
use Rattle.atomic_table.specs.Table.{Me}
use Rattle.npf_types.specs.declared.key.Way.{Way}
use Rattle.npf_core.specs.declared.{conn_id.ConnId.ConnId, slot.Slot.Slot, stage.Stage.{Stage, TheVariants.{Vacant, Building, Live, Dead}}}
use Rattle.npf_core.specs.{declared.stepped.Stepped.Stepped, Allowed.IsDue, Meaning.Meaning, NextState.stepped, Replies.step_answer}
use Rattle.npf_connections.specs.Pass.{Knows}
use Rattle.npf_cells_words.specs.{declared.layout.Pool.TheVariants.Slots, Layout.phase_field}
use Rattle.npf_cells_lives.specs.{declared.turn.Turn.Turn, Turns.{Running, running, stage_phase}}
use Rattle.npf_cells_rule.specs.{declared.view.CellView.CellView, Passes.cell_pass}
use Rattle.npf_cells_takes.specs.PrivateKinds.{ShowsTurnInc, MayStore, stored_in}
use Rattle.npf_cells_turns.specs.declared.act.TurnAct.{TurnAct, TheVariants.{Start, Step as Steps, Abandoned, Expired}}
use Rattle.npf_cells_turns.specs.{EndKinds.{BuildsThere, HasBareNotes, stage_by, MayAct, MayEndBy}, TurnKinds.{HasTaken, HasSlotTurn}}
use Rattle.npf_cells_turns.proofs.ActLemmas.{stepped_phase}
use Rattle.npf_cells.specs.{Due.is_due_at, Step.{StepsFlow, gone_on, going_answer}}

-- what holds something is Live
pub is_live : {S : Type 0} (stage : Stage S) (flow : S) (steps : ℕ) → running stage ≡ Some (flow, steps) → stage ≡ Live flow steps
is_live {S} Vacant flow steps e = absurd cc
is_live {S} (Building seat) flow steps e = absurd cc
is_live {S} (Live f n) flow steps e = ap alive e
  where
    alive : Running S → Stage S
    alive None = Live f n
    alive (Some x) = Live x.0 x.1
is_live {S} Dead flow steps e = absurd cc

-- a step of what a stage holds is a step of the stage
pub runs_on : {S A R : Type 0} (m : Meaning S A R) (way : Way) (arg : A) (stage : Stage S) → gone_on m way arg (running stage) ≡ running (stepped m way arg stage)
runs_on m way arg Vacant = refl
runs_on m way arg (Building seat) = refl
runs_on m way arg (Live flow steps) = refl
runs_on m way arg Dead = refl

pub answers_on : {S A R : Type 0} (m : Meaning S A R) (way : Way) (arg : A) (stage : Stage S) → going_answer m way arg (running stage) ≡ step_answer m way arg stage
answers_on m way arg Vacant = refl
answers_on m way arg (Building seat) = refl
answers_on m way arg (Live flow steps) = refl
answers_on m way arg Dead = refl

-- what is due is a flow that is due by the law
pub due_flow : {S A R : Type 0} (m : Meaning S A R) (time : ℕ) (held : Running S) → is_due_at m time held ≡ true →
    (flow : S × ℕ) × ((held ≡ Some flow) × IsTrue (m.is_due flow.0 time))
due_flow m time None e = absurd cc
due_flow m time (Some flow) e = (flow, (refl, e))

-- a turn of a slot that was at this, with this phase
abbrev pub turn_of : {S : Type 0} → ℕ → Slot S → ℕ → Turn S
turn_of slot was phase = record { slot = slot; was = was; phase = phase; ahead = None; said = None }

module _ {S A R : Type 0} where
  -- the pass has the turn of a slot that was at this when it got it, with this phase, and carries this value
  pub record Works (old : Me (Running S) (CellView S A R)) (slot : ℕ) (was : Slot S) (phase : ℕ) (value : Running S) (now : Me (Running S) (CellView S A R)) : Type 0 where
    pub is : now ≡ (record old.0 { turn = Some (turn_of slot was phase) }, (slot, value) ∷ [])

  pub works : (old now : Me (Running S) (CellView S A R)) (slot : ℕ) (taken : HasTaken slot old now) → Works old slot taken.was (stage_phase taken.was.stage) (running taken.was.stage) now
  works old now slot taken = record { is = taken.is }

  module _ (old now : Me (Running S) (CellView S A R)) (slot : ℕ) (was : Slot S) (phase : ℕ) (value : Running S) (so : Works old slot was phase value now) where
    turn_is : now.0.turn ≡ Some (turn_of slot was phase)
    turn_is = ap (λ (y : Me (Running S) (CellView S A R)). y.0.turn) so.is

    pub has_turn : HasSlotTurn now.0 slot
    has_turn = record { turn = turn_of slot was phase; has = turn_is; there = refl }

    -- what the exchange gave is what it carried
    pub gave : (result : Running S) → now.1 ≡ (slot, result) ∷ [] → value ≡ result
    gave result is =
        let both : (slot, value) ∷ [] ≡ (slot, result) ∷ [] = sym (ap (λ (y : Me (Running S) (CellView S A R)). y.1) so.is) ∙ is in
        ap (λ (xs : List (ℕ × Running S)). first_of xs) both
      where
        first_of : List (ℕ × Running S) → Running S
        first_of [] = None
        first_of (x ∷ xs) = x.1

    pub exchanged : (next : Me (Running S) (CellView S A R)) (flow : Running S) → next ≡ (now.0, (slot, flow) ∷ []) → Works old slot was phase flow next
    exchanged next flow is = record { is = is ∙ ap (λ (y : Me (Running S) (CellView S A R)). (y.0, (slot, flow) ∷ [])) so.is }

    pub may_store : (m : Meaning S A R) (number : ℕ) → MayStore m now.0 Slots slot phase_field number
    may_store m number = inr (inl (record { turn = turn_of slot was phase; has = turn_is; there = refl; phase = refl }))

    pub phased : (next : Me (Running S) (CellView S A R)) (number : ℕ) → next ≡ stored_in Slots slot phase_field number now → Works old slot was number value next
    phased next number is = record { is = is ∙ ap (stored_in Slots slot phase_field number) so.is }

    pub may_end : (m : Meaning S A R) (act : TurnAct S A) → MayAct m now.0 (turn_of slot was phase) act →
        value ≡ running (stage_by m act was.stage) → phase ≡ stage_phase (stage_by m act was.stage) → MayEndBy m act slot now
    may_end m act may runs phase_is = record {
      turn = turn_of slot was phase;
      has = turn_is;
      there = refl;
      may = may;
      carries = ap (λ (y : Me (Running S) (CellView S A R)). y.1) so.is ∙ ap (λ v. (slot, v) ∷ []) runs;
      phase = phase_is;
      settled = refl;
    }

    -- it may end the turn by starting what it built, where it stored the notes of the ways without a key
    pub may_start : (m : Meaning S A R) (id : ConnId) (n : ℕ) (init : S) → id.slot ≡ slot → Contains old.0.pools.builds id → ¬ Contains old.0.pools.unstored id.slot →
        HasBareNotes m old.0 id → phase ≡ 1 → value ≡ Some (init, 1) → MayEndBy m (Start id n init) slot now
    may_start m id n init there built stored notes phase_is value_is =
        may_end m (Start id n init)
        (subst (λ (y : Me (Running S) (CellView S A R)). BuildsThere y.0 (turn_of slot was phase) id ×
        HasBareNotes m y.0 id) (sym so.is) (record { built = built; there = there; stored = stored }, notes))
        value_is phase_is

    -- or by giving up what it built
    pub may_abandon : (m : Meaning S A R) (id : ConnId) → id.slot ≡ slot → Contains old.0.pools.builds id → ¬ Contains old.0.pools.unstored id.slot →
        HasBareNotes m old.0 id → phase ≡ 2 → value ≡ None → MayEndBy m (Abandoned id) slot now
    may_abandon m id there built stored notes phase_is value_is =
        may_end m (Abandoned id)
        (subst (λ (y : Me (Running S) (CellView S A R)). BuildsThere y.0 (turn_of slot was phase) id ×
        HasBareNotes m y.0 id) (sym so.is) (record { built = built; there = there; stored = stored }, notes))
        value_is phase_is

    -- it may end the turn with a step, where it carries the flow and the count that the step leaves
    pub may_step : (m : Meaning S A R) (id : ConnId) (n : ℕ) (way : Way) (arg : Bor A) → id.slot ≡ slot → old.0.turn ≡ None → Knows (cell_pass old.0) id → phase ≡ stage_phase was.stage →
        value ≡ running (stepped m way arg.now was.stage) → MayEndBy m (Steps id n way arg) slot now
    may_step m id n way arg there turnless known phase_is value_is =
        may_end m (Steps id n way arg)
        (record { known = subst (λ (y : Me (Running S) (CellView S A R)). Knows (cell_pass y.0) id) (sym so.is) known; there = there })
        value_is (phase_is ∙ sym (stepped_phase m way arg.now was.stage))

    -- what it carries after a step of the flow that the slot held
    pub gone : (m : Meaning S A R) (way : Way) (arg : A) (answer : Stepped R) (next : Me (Running S) (CellView S A R)) → StepsFlow m slot way arg answer now next → value ≡ running was.stage →
        Works old slot was phase (running (stepped m way arg was.stage)) next
    gone m way arg answer next on held =
        let flow_is : gone_on m way arg on.held ≡ running (stepped m way arg was.stage) = ap (gone_on m way arg) (sym (gave on.held on.was) ∙ held) ∙ runs_on m way arg was.stage in
        record {
          is = on.is
              ∙ ap (λ v. (now.0, (slot, v) ∷ [])) flow_is
              ∙ ap (λ (y : Me (Running S) (CellView S A R)). (y.0, (slot, running (stepped m way arg was.stage)) ∷ [])) so.is;
        }

    -- and what the step was answered
    pub answered : (m : Meaning S A R) (way : Way) (arg : A) (answer : Stepped R) (next : Me (Running S) (CellView S A R)) → StepsFlow m slot way arg answer now next → value ≡ running was.stage →
        answer ≡ step_answer m way arg was.stage
    answered m way arg answer next on held = on.answers ∙ ap (going_answer m way arg) (sym (gave on.held on.was) ∙ held) ∙ answers_on m way arg was.stage

    -- or by killing what was Live and due
    pub may_expire : (m : Meaning S A R) (id : ConnId) (time : ℕ) (flow : S) (steps : ℕ) → id.slot ≡ slot → was.inc ≡ id.inc →
        running was.stage ≡ Some (flow, steps) → IsTrue (m.is_due flow time) → phase ≡ 2 → value ≡ None → MayEndBy m (Expired id time) slot now
    may_expire m id time flow steps there inc held due phase_is value_is =
        may_end m (Expired id time)
        (record { there = there; inc = inc; due = subst (IsDue m time) (sym (is_live was.stage flow steps held)) due })
        value_is phase_is

    -- the incarnation that the pass loads is that of a connection that was Live
    pub inc_shown : (found : ℕ) (flow : S) (steps : ℕ) → running was.stage ≡ Some (flow, steps) → ShowsTurnInc now.0.turn slot found → found ≡ was.inc
    inc_shown found flow steps held shows =
        let live = is_live was.stage flow steps held in
        shows (turn_of slot was phase) turn_is refl (λ none. absurd (let no : 1 ≡ 0 = sym (ap stage_phase live) ∙ none in cc))
