use Rattle.std.specs.Prelude.{ℕ, Bool, true, false, not, ◌&&◌, nat_le, if◌then◌else◌}
use Rattle.npf_types.specs.declared.facts.Segment.{Segment}
use Rattle.npf_tcp.specs.declared.state.Known.{Known}
use Rattle.npf_tcp.specs.declared.state.Known.TheVariants.{Nothing, Expected, Seen}
use Rattle.npf_tcp.specs.declared.state.TcpSide.{TcpSide}
use Rattle.npf_tcp.specs.Class.{segment_class, is_reset}
use Rattle.npf_tcp.specs.Extent.{segment_end}
use Rattle.npf_tcp.specs.Flag.{has_ack}
use Rattle.npf_tcp.specs.Sequence.{minus, is_at_or_before}

-- how far back an acknowledgment may lie
abbrev pub oldest_ack : ℕ
oldest_ack = 66000

-- the segment ends where its sender may send, and begins no more than the receiver's greatest window before the
-- sender's end
unfoldable pub is_sent_in_bounds : TcpSide → TcpSide → Segment → Bool
is_sent_in_bounds sender receiver seg =
    is_at_or_before (segment_end seg) sender.maxend && is_at_or_before (minus sender.end receiver.maxwin) seg.seq

-- what the segment acknowledges, if it does, was sent, and lies no more than the oldest acknowledgment back
unfoldable pub is_ack_in_bounds : TcpSide → Segment → Bool
is_ack_in_bounds receiver seg =
    if has_ack seg.flags
    then is_at_or_before seg.ack receiver.end && is_at_or_before (minus receiver.end oldest_ack) seg.ack
    else true

-- the bounds that hold where this much is known of the sender and of the receiver
abbrev pub is_in_bounds_by : Known → Known → TcpSide → TcpSide → Segment → Bool
is_in_bounds_by Seen Seen sender receiver seg = is_sent_in_bounds sender receiver seg && is_ack_in_bounds receiver seg
is_in_bounds_by Expected Seen _ receiver seg = is_ack_in_bounds receiver seg
is_in_bounds_by Nothing Seen _ receiver seg = is_ack_in_bounds receiver seg
is_in_bounds_by _ Expected _ _ _ = true
is_in_bounds_by _ Nothing _ _ _ = true

-- nothing is known of the side
abbrev pub is_unknown : Known → Bool
is_unknown Nothing = true
is_unknown Expected = false
is_unknown Seen = false

-- where a connection is strict, a reset from a side of which something is known stands at the end of what that side sent, or one
-- byte before it
unfoldable pub is_reset_in_bounds : Bool → TcpSide → Segment → Bool
is_reset_in_bounds strict sender seg =
    if strict && is_reset (segment_class seg.flags) && not (is_unknown sender.known)
    then nat_le (minus sender.end seg.seq) 1
    else true

-- the segment's numbers lie within the bounds, in a connection that is strict about resets or isn't
unfoldable pub is_in_bounds : Bool → TcpSide → TcpSide → Segment → Bool
is_in_bounds strict sender receiver seg =
    is_in_bounds_by sender.known receiver.known sender receiver seg && is_reset_in_bounds strict sender seg
