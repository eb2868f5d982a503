use Rattle.std.specs.Prelude.{Option, Some, None}
use Rattle.npf_types.specs.declared.key.Way.{Way}
use Rattle.npf_types.specs.declared.key.Way.TheVariants.{Forward, Backward, Port}
use Rattle.npf_tcp.specs.declared.class.SegmentClass.{SegmentClass}
use Rattle.npf_tcp.specs.declared.class.SegmentClass.TheVariants.{Rst, Syn, SynAck, Ack, Fin, Invalid}
use Rattle.npf_tcp.specs.declared.state.TcpPhase.{TcpPhase}
use Rattle.npf_tcp.specs.declared.state.TcpPhase.TheVariants.{Closed, SynSent, SimsynSent, SynReceived, Established, FinSent, FinReceived, CloseWait, FinWait, Closing, LastAck, TimeWait}

-- a row for one way: the cells of SYN, SYN with ACK, ACK and FIN. A reset leads to CLOSED from every phase.
abbrev pub row : Option TcpPhase → Option TcpPhase → Option TcpPhase → Option TcpPhase → SegmentClass → Option TcpPhase
row syn syn_ack ack fin Rst = Some Closed
row syn syn_ack ack fin Syn = syn
row syn syn_ack ack fin SynAck = syn_ack
row syn syn_ack ack fin Ack = ack
row syn syn_ack ack fin Fin = fin
row syn syn_ack ack fin Invalid = None

-- a cell that refuses
abbrev pub no : Option TcpPhase
no = None

-- the rows of segments from the forward side
abbrev pub forward_cell : TcpPhase → SegmentClass → Option TcpPhase
forward_cell Closed = row no no no no
forward_cell SynSent = row (Some SynSent) no no no
forward_cell SimsynSent = row (Some SimsynSent) (Some SynReceived) no no
forward_cell SynReceived = row (Some SynReceived) (Some SynReceived) (Some Established) (Some FinSent)
forward_cell Established = row no no (Some Established) (Some FinSent)
forward_cell FinSent = row no no (Some FinSent) (Some FinSent)
forward_cell FinReceived = row no no (Some CloseWait) (Some Closing)
forward_cell CloseWait = row no no (Some CloseWait) (Some LastAck)
forward_cell FinWait = row no no (Some FinWait) (Some FinWait)
forward_cell Closing = row no no (Some LastAck) (Some Closing)
forward_cell LastAck = row no no (Some TimeWait) (Some LastAck)
forward_cell TimeWait = row no no (Some TimeWait) (Some TimeWait)

-- the rows of segments from the backward side
abbrev pub backward_cell : TcpPhase → SegmentClass → Option TcpPhase
backward_cell Closed = row no no no no
backward_cell SynSent = row (Some SimsynSent) (Some SynReceived) no no
backward_cell SimsynSent = row (Some SimsynSent) (Some SynReceived) no (Some FinReceived)
backward_cell SynReceived = row no (Some SynReceived) (Some SynReceived) (Some FinReceived)
backward_cell Established = row no (Some Established) (Some Established) (Some FinReceived)
backward_cell FinSent = row no no (Some FinWait) (Some Closing)
backward_cell FinReceived = row no no (Some FinReceived) (Some FinReceived)
backward_cell CloseWait = row no no (Some CloseWait) (Some CloseWait)
backward_cell FinWait = row no no (Some FinWait) (Some LastAck)
backward_cell Closing = row no no (Some LastAck) (Some Closing)
backward_cell LastAck = row no no (Some TimeWait) (Some LastAck)
backward_cell TimeWait = row no no (Some TimeWait) (Some TimeWait)

-- the phase to which a segment of this class leads, or None where it is refused; the way of a port counts as forward
abbrev pub cell : TcpPhase → Way → SegmentClass → Option TcpPhase
cell phase Forward = forward_cell phase
cell phase Backward = backward_cell phase
cell phase Port = forward_cell phase
