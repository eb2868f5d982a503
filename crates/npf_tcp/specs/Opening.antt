use Rattle.std.specs.Prelude.{ℕ, Bool, None, if◌then◌else◌}
use Rattle.npf_types.specs.declared.facts.Segment.{Segment}
use Rattle.npf_tcp.specs.declared.class.SegmentClass.{SegmentClass}
use Rattle.npf_tcp.specs.declared.class.SegmentClass.TheVariants.{Rst, Syn, SynAck, Ack, Fin, Invalid}
use Rattle.npf_tcp.specs.declared.state.Known.TheVariants.{Nothing, Expected, Seen}
use Rattle.npf_tcp.specs.declared.state.TcpPhase.{TcpPhase}
use Rattle.npf_tcp.specs.declared.state.TcpPhase.TheVariants.{Closed, SynSent, Established, FinSent}
use Rattle.npf_tcp.specs.declared.state.TcpSide.{TcpSide}
use Rattle.npf_tcp.specs.declared.state.TcpState.{TcpState}
use Rattle.npf_tcp.specs.Class.{segment_class}
use Rattle.npf_tcp.specs.Extent.{segment_end, window}
use Rattle.npf_tcp.specs.Flag.{has_syn, has_ack}
use Rattle.npf_tcp.specs.Sequence.{plus}

-- the phase that a first segment of this class opens
abbrev pub opening_phase : SegmentClass → TcpPhase
opening_phase Syn = SynSent
opening_phase Rst = Closed
opening_phase Fin = FinSent
opening_phase SynAck = Established
opening_phase Ack = Established
opening_phase Invalid = Established

-- a side of which nothing is known
abbrev pub unknown_side : TcpSide
unknown_side = record { known = Nothing; end = 0; maxend = 0; maxwin = 0; scale = None }

-- a side to which a segment acknowledges up to `ack` and offers a window
abbrev pub expected_side : ℕ → ℕ → TcpSide
expected_side ack window = record { known = Expected; end = ack; maxend = plus ack window; maxwin = 0; scale = None }

-- the side that sent the first segment: it has sent up to its end, and its scale comes with SYN alone
unfoldable pub opening_forward : Segment → TcpSide
opening_forward seg = record {
  known = Seen;
  end = segment_end seg;
  maxend = segment_end seg;
  maxwin = window seg None None;
  scale = if has_syn seg.flags then seg.scale else None;
}

-- the other side
unfoldable pub opening_backward : Segment → TcpSide
opening_backward seg = if has_ack seg.flags then expected_side seg.ack (window seg None None) else unknown_side

-- the state that a connection's first segment opens, strict about resets or not
unfoldable pub opening_state : Segment → Bool → TcpState
opening_state seg strict = record {
  phase = opening_phase (segment_class seg.flags);
  forward = opening_forward seg;
  backward = opening_backward seg;
  strict = strict;
}
