use Rattle.std.proofs.Common.{◌≡◌, ◌≤◌, length, take, vec_capacity}
use Rattle.npf_ctl_arrivals.specs.Traces.{packets_in_traces}
use Rattle.npf_ctl_arrivals.proofs.arrivals.Captures.packets.Given as goal

abbrev pub invariant-loop-trace : goal.invariant-loop-trace
invariant-loop-trace l = record {
  packets : l.packets.items ≡ packets_in_traces (take l.trace-index l.fn.self.traces.items);
  room : length (packets_in_traces l.fn.self.traces.items) ≤ vec_capacity l.packets;
}
