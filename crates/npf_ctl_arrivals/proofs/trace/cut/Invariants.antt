use Rattle.std.proofs.Common.{◌≡◌, ◌+◌, ◌-◌, ◌≤◌, ◌++◌, length, take, drop, vec_len, vec_capacity}
use Rattle.npf_pcap.specs.Extent.{StandApart}
use Rattle.npf_ctl_arrivals.proofs.PacketLemmas.{packets_at}
use Rattle.npf_ctl_arrivals.proofs.trace.cut.Given as goal

abbrev pub invariant-loop-extent : goal.invariant-loop-extent
invariant-loop-extent l = record {
  rest : l.rest ≡ drop l.at l.fn.bytes;
  apart : StandApart l.at (drop l.extent-index l.extents) (length l.fn.bytes);
  packets : l.packets.items ≡ l.initial.packets.items ++ packets_at l.tap.link l.tap.ifid l.tap.dir l.fn.bytes (take l.extent-index l.extents);
  room : vec_len l.packets + (length l.extents - l.extent-index) ≤ vec_capacity l.packets;
  capacity : vec_capacity l.packets ≡ vec_capacity l.initial.packets;
}
