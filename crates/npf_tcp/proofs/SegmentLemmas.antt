use Rattle.std.proofs.Common.{◌≡◌, Option, Some, None, Bool, true, false, refl}
use Rattle.npf_types.specs.declared.{key.Way.{Way, TheVariants.{Forward, Backward, Port}}, facts.Segment.Segment}
use Rattle.npf_tcp.specs.{declared.state.{TcpPhase.TcpPhase, TcpSide.TcpSide, TcpState.TcpState}, Window.is_in_bounds, Cell.cell, Class.segment_class}
use Rattle.npf_tcp.specs.{Laws.{EachSide, is_accepted}, Segment.{sender_of, receiver_of, sender_after, receiver_after, state_after, answer, segment_step}}

-- what holds of a refusal, and of a move where the table has a cell and the numbers lie within the bounds, holds of the answer
answer_cases : (cell : Option TcpPhase) (bounded : Bool) (state : TcpState) (way : Way) (seg : Segment) (P : TcpState × Bool → Type 0) →
    ((phase : TcpPhase) → cell ≡ Some phase → bounded ≡ true → P (state_after phase state way seg, true)) →
    P (state, false) → P (answer cell bounded state way seg)
answer_cases (Some phase) true state way seg P accepted refused = accepted phase refl refl
answer_cases (Some phase) false state way seg P accepted refused = refused
answer_cases None bounded state way seg P accepted refused = refused

pub step_cases : (state : TcpState) (way : Way) (seg : Segment) (P : TcpState × Bool → Type 0) →
    ((phase : TcpPhase) → cell state.phase way (segment_class seg.flags) ≡ Some phase →
    is_in_bounds state.strict (sender_of state way) (receiver_of state way) seg ≡ true → P (state_after phase state way seg, true)) →
    P (state, false) → P (segment_step state way seg)
unfolding segment_step
step_cases state way seg = answer_cases (cell state.phase way (segment_class seg.flags)) (is_in_bounds state.strict (sender_of state way) (receiver_of state way) seg) state way seg

-- the segment is accepted where the table has a cell and the numbers lie within the bounds
answer-accepted : (cell : Option TcpPhase) (phase : TcpPhase) (bounded : Bool) (state : TcpState) (way : Way) (seg : Segment) → cell ≡ Some phase → (answer cell bounded state way seg).1 ≡ bounded
answer-accepted (Some _) phase true state way seg h = refl
answer-accepted (Some _) phase false state way seg h = refl
answer-accepted None phase bounded state way seg h = cc

pub step-accepted : (state : TcpState) (way : Way) (seg : Segment) (phase : TcpPhase) → cell state.phase way (segment_class seg.flags) ≡ Some phase →
    is_accepted state way seg ≡ is_in_bounds state.strict (sender_of state way) (receiver_of state way) seg
unfolding segment_step
step-accepted state way seg phase = answer-accepted (cell state.phase way (segment_class seg.flags)) phase (is_in_bounds state.strict (sender_of state way) (receiver_of state way) seg) state way seg

pub state_after-phase : (phase : TcpPhase) (state : TcpState) (way : Way) (seg : Segment) → (state_after phase state way seg).phase ≡ phase
unfolding state_after
state_after-phase phase state Forward seg = refl
state_after-phase phase state Backward seg = refl
state_after-phase phase state Port seg = refl

pub state_after-strict : (phase : TcpPhase) (state : TcpState) (way : Way) (seg : Segment) → (state_after phase state way seg).strict ≡ state.strict
unfolding state_after
state_after-strict phase state Forward seg = refl
state_after-strict phase state Backward seg = refl
state_after-strict phase state Port seg = refl

-- what a segment makes of a sender and of a receiver, a move makes of each side
pub state_after_each : (P : TcpSide → TcpSide → Type 0) (phase : TcpPhase) (state : TcpState) (way : Way) (seg : Segment) →
    ((s r : TcpSide) → P s (sender_after s r seg)) → ((s r : TcpSide) → P r (receiver_after s r seg)) →
    EachSide P state (state_after phase state way seg)
unfolding state_after
state_after_each P phase state Forward seg sent got = (sent state.forward state.backward, got state.forward state.backward)
state_after_each P phase state Backward seg sent got = (got state.backward state.forward, sent state.backward state.forward)
state_after_each P phase state Port seg sent got = (sent state.forward state.backward, got state.forward state.backward)

-- and so does a step, where what it makes holds of a side that stays as it is
pub step_each : (P : TcpSide → TcpSide → Type 0) (state : TcpState) (way : Way) (seg : Segment) →
    ((s r : TcpSide) → P s (sender_after s r seg)) → ((s r : TcpSide) → P r (receiver_after s r seg)) →
    ((side : TcpSide) → P side side) → EachSide P state (segment_step state way seg).0
step_each P state way seg sent got same =
    step_cases state way seg (λ r. EachSide P state r.0) (λ phase _ _. state_after_each P phase state way seg sent got) (same state.forward, same state.backward)
