-- When a flow runs out: each has timeouts of its own, and what its packets have shown says which of them holds.
use Rattle.std.specs.Prelude.{ℕ, ◌-◌, ◌*◌, ◌^◌, nat_le, Bool, true, false, ◌&&◌}
use Rattle.npf_tcp.specs.declared.state.TcpPhase.{TcpPhase}
use Rattle.npf_tcp.specs.declared.state.TcpPhase.TheVariants as Phases
use Rattle.npf_timeouts.specs.declared.timeouts.Timeout.{Timeout}
use Rattle.npf_timeouts.specs.declared.timeouts.Timeout.TheVariants.{TcpNew, TcpEstablished, TcpHalfClose, TcpTimeWait, TcpClose, OtherNew, OtherEstablished}
use Rattle.npf_timeouts.specs.Timeouts.{timeout_of}
use Rattle.npf_flow.specs.declared.flow.Flow.{Flow}
use Rattle.npf_flow.specs.declared.flow.FlowKind.{FlowKind}
use Rattle.npf_flow.specs.declared.flow.FlowKind.TheVariants.{Tcp, Other}

-- a connection of TCP, by its phase: one that opens, one that is open, one of which a side has sent FIN, and one that is over
abbrev pub tcp_timeout_kind : TcpPhase → Timeout
tcp_timeout_kind Phases.SynSent = TcpNew
tcp_timeout_kind Phases.SimsynSent = TcpNew
tcp_timeout_kind Phases.SynReceived = TcpNew
tcp_timeout_kind Phases.Established = TcpEstablished
tcp_timeout_kind Phases.FinSent = TcpHalfClose
tcp_timeout_kind Phases.FinReceived = TcpHalfClose
tcp_timeout_kind Phases.CloseWait = TcpHalfClose
tcp_timeout_kind Phases.FinWait = TcpHalfClose
tcp_timeout_kind Phases.Closing = TcpHalfClose
tcp_timeout_kind Phases.LastAck = TcpHalfClose
tcp_timeout_kind Phases.TimeWait = TcpTimeWait
tcp_timeout_kind Phases.Closed = TcpClose

-- a flow: one of another protocol before it is answered and behind that
abbrev pub timeout_kind : FlowKind → Timeout
timeout_kind (Tcp state) = tcp_timeout_kind state.phase
timeout_kind (Other false) = OtherNew
timeout_kind (Other true) = OtherEstablished

-- its own timeout, in nanoseconds
abbrev pub timeout : Flow → ℕ
timeout flow = timeout_of flow.timeouts (timeout_kind flow.kind) * 10 ^ 9

-- a flow is due where it was idle for its timeout or longer, and never at a time before its last packet's
abbrev pub is_due : Flow → ℕ → Bool
is_due flow now = nat_le flow.last now && nat_le (timeout flow) (now - flow.last)
