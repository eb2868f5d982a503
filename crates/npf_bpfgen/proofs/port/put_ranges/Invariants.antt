use Rattle.std.{proofs.Common.{◌≤◌, ◌+◌, ◌-◌, ◌*◌, length, drop}, specs.List.list_any}
use Rattle.npf_model.specs.Describes.{in_range}
use Rattle.npf_bpfgen.specs.Tail.{Extends, GuardsNumber}
use Rattle.npf_bpfgen.proofs.port.put_ranges.Given as goal

abbrev pub invariant-loop-left : goal.invariant-loop-left
invariant-loop-left l = record {
  left : l.left ≤ length l.ranges;
  front : Extends (1 + 3 * (length l.ranges - l.left)) 1 l.fn.tail l.tail;
  value : GuardsNumber (λ port. list_any (in_range port) (drop l.left l.ranges)) l.fn.tail l.tail;
}

abbrev pub decreases-loop-left : goal.decreases-loop-left
decreases-loop-left l = l.left
