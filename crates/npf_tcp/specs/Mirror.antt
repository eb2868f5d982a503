use Rattle.std.specs.Prelude.{Bool, true, false, Option, Some, None}
use Rattle.npf_types.specs.declared.key.Way.{Way}
use Rattle.npf_types.specs.declared.key.Way.TheVariants.{Forward, Backward, Port}
use Rattle.npf_tcp.specs.declared.class.SegmentClass.{SegmentClass}
use Rattle.npf_tcp.specs.declared.class.SegmentClass.TheVariants.{Syn, SynAck, Ack, Fin}
use Rattle.npf_tcp.specs.declared.state.TcpPhase.{TcpPhase}
use Rattle.npf_tcp.specs.declared.state.TcpPhase.TheVariants.{Closed, SynSent, SimsynSent, SynReceived, Established, FinSent, FinReceived, CloseWait, FinWait, Closing, LastAck, TimeWait}
use Rattle.npf_tcp.specs.declared.state.TcpState.{TcpState}

-- the same phase with the sides exchanged: only the phases in which one side has sent FIN name a side
abbrev pub mirrored_phase : TcpPhase → TcpPhase
mirrored_phase Closed = Closed
mirrored_phase SynSent = SynSent
mirrored_phase SimsynSent = SimsynSent
mirrored_phase SynReceived = SynReceived
mirrored_phase Established = Established
mirrored_phase FinSent = FinReceived
mirrored_phase FinReceived = FinSent
mirrored_phase CloseWait = FinWait
mirrored_phase FinWait = CloseWait
mirrored_phase Closing = Closing
mirrored_phase LastAck = LastAck
mirrored_phase TimeWait = TimeWait

abbrev pub mirrored_cell : Option TcpPhase → Option TcpPhase
mirrored_cell (Some phase) = Some (mirrored_phase phase)
mirrored_cell None = None

-- the other way; the way of a port counts as forward
abbrev pub opposite_way : Way → Way
opposite_way Forward = Backward
opposite_way Backward = Forward
opposite_way Port = Backward

-- the state with the sides exchanged
abbrev pub mirrored_state : TcpState → TcpState
mirrored_state state = record state { phase = mirrored_phase state.phase; forward = state.backward; backward = state.forward }

-- The cells at which the table isn't symmetric: the first SYN and its answers have a side, while the connection opens.
-- In SYN_SENT only the backward side may answer. In SIMSYN_SENT only the backward side may send FIN. In SYN_RECEIVED the
-- forward side alone may repeat its SYN, and its ACK ends the opening. In ESTABLISHED the backward side alone may repeat
-- its SYN with ACK.
abbrev pub is_one_sided : TcpPhase → SegmentClass → Bool
is_one_sided SynSent Syn = true
is_one_sided SynSent SynAck = true
is_one_sided SimsynSent Fin = true
is_one_sided SynReceived Syn = true
is_one_sided SynReceived Ack = true
is_one_sided Established SynAck = true
is_one_sided _ _ = false

-- the phases with no such cell: all but the four of the opening
abbrev pub is_symmetric : TcpPhase → Bool
is_symmetric SynSent = false
is_symmetric SimsynSent = false
is_symmetric SynReceived = false
is_symmetric Established = false
is_symmetric Closed = true
is_symmetric FinSent = true
is_symmetric FinReceived = true
is_symmetric CloseWait = true
is_symmetric FinWait = true
is_symmetric Closing = true
is_symmetric LastAck = true
is_symmetric TimeWait = true
