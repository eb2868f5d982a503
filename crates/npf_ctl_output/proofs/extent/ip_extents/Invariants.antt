use Rattle.std.{proofs.Common.{◌+◌, ◌-◌, ◌≤◌, take, length, vec_len, vec_capacity, All}, specs.List.AllZip}
use Rattle.npf_ctl_output.specs.Extents.{EndsInPacket, IsExtentOf}
use Rattle.npf_ctl_output.proofs.extent.ip_extents.Given as goal

abbrev pub invariant-loop-packet : goal.invariant-loop-packet
invariant-loop-packet l = record {
  so_far : AllZip IsExtentOf (take l.packet-index l.packets) l.extents.items;
  ends : All EndsInPacket l.extents.items;
  room : vec_len l.extents + (length l.packets - l.packet-index) ≤ vec_capacity l.extents;
}
