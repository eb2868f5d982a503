use Rattle.std.{proofs.Common.{false, ◌≤◌, ◌+◌, length, drop, Some}, specs.List.sum_by}
use Rattle.npf_model.specs.Describes.{fits_addrs}
use Rattle.npf_bpfgen.specs.{Endpoint.address_of, Premise.GuardsPacket, ProgramLength.item_length, Tail.Extends}
use Rattle.npf_bpfgen.proofs.addr.put_addrs.Given as goal

abbrev pub invariant-loop-left : goal.invariant-loop-left
invariant-loop-left l = record {
  left : l.left ≤ length l.items;
  front : Extends (1 + sum_by item_length (drop l.left l.items)) 1 l.fn.tail l.tail;
  value : GuardsPacket (λ tables facts. fits_addrs false (Some (drop l.left l.items)) tables (address_of l.endpoint facts)) l.fn.tail l.tail;
}

abbrev pub decreases-loop-left : goal.decreases-loop-left
decreases-loop-left l = l.left
