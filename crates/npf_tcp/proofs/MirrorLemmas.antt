use Rattle.std.proofs.Common.{◌≡◌, Option, Some, None, Bool, true, false, refl, sym, subst}
use Rattle.npf_types.specs.declared.{key.Way.{Way, TheVariants.{Forward, Backward, Port}}, facts.Segment.Segment}
use Rattle.npf_tcp.specs.{declared.state.{TcpPhase.TcpPhase, TcpState.TcpState}, Window.is_in_bounds, Cell.cell, Class.segment_class}
use Rattle.npf_tcp.specs.Mirror.{mirrored_state, mirrored_phase, mirrored_cell, opposite_way, is_one_sided}
use Rattle.npf_tcp.{specs.Segment.{sender_of, receiver_of, state_after, answer, segment_step}, proofs.CellLemmas.cell-mirrored}

-- a segment between the exchanged sides moves them as it moves the sides
state_after-mirrored : (phase : TcpPhase) (state : TcpState) (way : Way) (seg : Segment) →
    state_after (mirrored_phase phase) (mirrored_state state) (opposite_way way) seg ≡ mirrored_state (state_after phase state way seg)
unfolding state_after
state_after-mirrored phase state Forward seg = refl
state_after-mirrored phase state Backward seg = refl
state_after-mirrored phase state Port seg = refl

bounds-mirrored : (state : TcpState) (way : Way) (seg : Segment) → is_in_bounds state.strict (sender_of state way) (receiver_of state way) seg ≡ is_in_bounds
    (mirrored_state state).strict (sender_of (mirrored_state state) (opposite_way way)) (receiver_of (mirrored_state state) (opposite_way way)) seg
bounds-mirrored state Forward seg = refl
bounds-mirrored state Backward seg = refl
bounds-mirrored state Port seg = refl

-- two answers that are each other's exchange
pub record IsExchanged (other answer : TcpState × Bool) : Type 0 where
  pub next : other.0 ≡ mirrored_state answer.0
  pub accepted : other.1 ≡ answer.1

answer-mirrored : (cell : Option TcpPhase) (bounded : Bool) (state : TcpState) (way : Way) (seg : Segment) →
    IsExchanged (answer (mirrored_cell cell) bounded (mirrored_state state) (opposite_way way) seg) (answer cell bounded state way seg)
answer-mirrored (Some phase) true state way seg = record { next = state_after-mirrored phase state way seg; accepted = refl }
answer-mirrored (Some phase) false state way seg = record { next = refl; accepted = refl }
answer-mirrored None bounded state way seg = record { next = refl; accepted = refl }

pub step-mirrored : (state : TcpState) (way : Way) (seg : Segment) → is_one_sided state.phase (segment_class seg.flags) ≡ false →
    IsExchanged (segment_step (mirrored_state state) (opposite_way way) seg) (segment_step state way seg)
unfolding segment_step
step-mirrored state way seg h =
    let class = segment_class seg.flags in
    let here = answer-mirrored (cell state.phase way class) (is_in_bounds state.strict (sender_of state way) (receiver_of state way) seg) state way seg in
    let there = subst (λ (b : Bool). IsExchanged (answer (mirrored_cell (cell state.phase way class)) b (mirrored_state state) (opposite_way way) seg) (segment_step state way seg))
    (bounds-mirrored state way seg) here in
    subst (λ (c : Option TcpPhase). IsExchanged (answer c (is_in_bounds (mirrored_state state).strict (sender_of (mirrored_state state) (opposite_way way))
    (receiver_of (mirrored_state state) (opposite_way way)) seg) (mirrored_state state) (opposite_way way) seg) (segment_step state way seg)) (sym (cell-mirrored state.phase class h way)) there
