use Rattle.std.{proofs.Common.{◌≤◌, length, drop}, specs.{List.{list_any, sum_by}, Prelude.not}}
use Rattle.npf_model.specs.Describes.{item_has}
use Rattle.npf_bpfgen.specs.{Endpoint.address_of, Premise.GuardsPacket, ProgramLength.item_length, Tail.Extends}
use Rattle.npf_bpfgen.proofs.addr.put_absent.Given as goal

abbrev pub invariant-loop-left : goal.invariant-loop-left
invariant-loop-left l = record {
  left : l.left ≤ length l.items;
  front : Extends (sum_by item_length (drop l.left l.items)) 1 l.fn.tail l.tail;
  value : GuardsPacket (λ tables facts. not (list_any (item_has tables (address_of l.endpoint facts)) (drop l.left l.items))) l.fn.tail l.tail;
}

abbrev pub decreases-loop-left : goal.decreases-loop-left
decreases-loop-left l = l.left
