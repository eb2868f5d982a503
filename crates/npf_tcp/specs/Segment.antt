use Rattle.std.specs.Prelude.{ℕ, Bool, true, false, Option, Some, None, ◌&&◌, ◌||◌, max, is_none, if◌then◌else◌}
use Rattle.npf_types.specs.declared.key.Way.{Way}
use Rattle.npf_types.specs.declared.key.Way.TheVariants.{Forward, Backward, Port}
use Rattle.npf_types.specs.declared.facts.Segment.{Segment}
use Rattle.npf_tcp.specs.declared.state.Known.{Known}
use Rattle.npf_tcp.specs.declared.state.Known.TheVariants.{Nothing, Expected, Seen}
use Rattle.npf_tcp.specs.declared.state.TcpPhase.{TcpPhase}
use Rattle.npf_tcp.specs.declared.state.TcpSide.{TcpSide}
use Rattle.npf_tcp.specs.declared.state.TcpState.{TcpState}
use Rattle.npf_tcp.specs.Window.{is_in_bounds}
use Rattle.npf_tcp.specs.Cell.{cell}
use Rattle.npf_tcp.specs.Class.{segment_class}
use Rattle.npf_tcp.specs.Extent.{segment_end, window}
use Rattle.npf_tcp.specs.Flag.{has_syn, has_ack}
use Rattle.npf_tcp.specs.Sequence.{plus, later_of}

-- the side that sends a segment of this way, and the side that gets it; the way of a port counts as forward
abbrev pub sender_of : TcpState → Way → TcpSide
sender_of state Forward = state.forward
sender_of state Backward = state.backward
sender_of state Port = state.forward

abbrev pub receiver_of : TcpState → Way → TcpSide
receiver_of state Forward = state.backward
receiver_of state Backward = state.forward
receiver_of state Port = state.backward

-- the state with this phase, sender and receiver in place of its own
abbrev pub state_with : TcpState → TcpPhase → Way → TcpSide → TcpSide → TcpState
state_with state phase Forward sender receiver = record state { phase = phase; forward = sender; backward = receiver }
state_with state phase Backward sender receiver = record state { phase = phase; forward = receiver; backward = sender }
state_with state phase Port sender receiver = record state { phase = phase; forward = sender; backward = receiver }

-- First, the sender's numbers after a segment that ends at e and offers a window, by how much was known of it.
abbrev pub side_after_sending_by : Known → TcpSide → ℕ → ℕ → TcpSide
side_after_sending_by Seen side e window =
    record side { end = later_of side.end e; maxend = later_of side.maxend e; maxwin = max side.maxwin window }
side_after_sending_by Expected side e window =
    record side { known = Seen; end = e; maxend = later_of side.maxend e; maxwin = window }
side_after_sending_by Nothing side e window =
    record side { known = Seen; end = e; maxend = e; maxwin = window }

unfoldable pub side_after_sending : TcpSide → ℕ → ℕ → TcpSide
side_after_sending side e window = side_after_sending_by side.known side e window

-- Then the scales. A segment with SYN brings its sender's; a receiver that is seen had its turn, so if one of the two
-- has no scale then, both have none (RFC 7323 section 2.2).
abbrev pub is_seen : Known → Bool
is_seen Seen = true
is_seen Expected = false
is_seen Nothing = false

abbrev pub is_without_scales : TcpSide → Segment → Bool
is_without_scales receiver seg = is_seen receiver.known && (is_none seg.scale || is_none receiver.scale)

unfoldable pub sender_scale : TcpSide → TcpSide → Segment → Option ℕ
sender_scale sender receiver seg =
    if has_syn seg.flags then (if is_without_scales receiver seg then None else seg.scale) else sender.scale

unfoldable pub receiver_scale : TcpSide → Segment → Option ℕ
receiver_scale receiver seg = if has_syn seg.flags && is_without_scales receiver seg then None else receiver.scale

-- Last, the receiver's numbers after the acknowledgment of all before `ack` with a window.
abbrev pub side_after_ack_by : Known → TcpSide → ℕ → ℕ → TcpSide
side_after_ack_by Nothing side ack window =
    record side { known = Expected; end = ack; maxend = plus ack window; maxwin = 0 }
side_after_ack_by Expected side ack window = record side { maxend = later_of side.maxend (plus ack window) }
side_after_ack_by Seen side ack window = record side { maxend = later_of side.maxend (plus ack window) }

unfoldable pub side_after_ack : TcpSide → ℕ → ℕ → TcpSide
side_after_ack side ack window = side_after_ack_by side.known side ack window

-- both sides after an accepted segment, whose window is scaled as before it
unfoldable pub sender_after : TcpSide → TcpSide → Segment → TcpSide
sender_after sender receiver seg =
    record (side_after_sending sender (segment_end seg) (window seg sender.scale receiver.scale)) { scale = sender_scale sender receiver seg }

unfoldable pub receiver_after : TcpSide → TcpSide → Segment → TcpSide
receiver_after sender receiver seg =
    let scaled : TcpSide = record receiver { scale = receiver_scale receiver seg } in
    if has_ack seg.flags then side_after_ack scaled seg.ack (window seg sender.scale receiver.scale) else scaled

-- the state after a segment that is accepted and leads to this phase
unfoldable pub state_after : TcpPhase → TcpState → Way → Segment → TcpState
state_after phase state way seg =
    let sender : TcpSide = sender_of state way in
    let receiver : TcpSide = receiver_of state way in
    state_with state phase way (sender_after sender receiver seg) (receiver_after sender receiver seg)

-- the answer where the table has this cell, and the numbers lie within the bounds or not
abbrev pub answer : Option TcpPhase → Bool → TcpState → Way → Segment → TcpState × Bool
answer (Some phase) true state way seg = (state_after phase state way seg, true)
answer (Some _) false state _ _ = (state, false)
answer None _ state _ _ = (state, false)

-- the segment law: the next state, and whether the segment is accepted
unfoldable pub segment_step : TcpState → Way → Segment → TcpState × Bool
segment_step state way seg =
    answer (cell state.phase way (segment_class seg.flags)) (is_in_bounds state.strict (sender_of state way) (receiver_of state way) seg) state way seg
