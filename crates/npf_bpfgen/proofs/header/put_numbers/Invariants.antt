use Rattle.std.{proofs.Common.{◌≤◌, ◌+◌, ◌-◌, ◌*◌, length, drop}, specs.{List.list_any, Prelude.◌==◌}}
use Rattle.npf_bpfgen.specs.Tail.{Extends, GuardsNumber}
use Rattle.npf_bpfgen.proofs.header.put_numbers.Given as goal

abbrev pub invariant-loop-left : goal.invariant-loop-left
invariant-loop-left l = record {
  left : l.left ≤ length l.protos;
  front : Extends (1 + 2 * (length l.protos - l.left)) 1 l.fn.tail l.tail;
  value : GuardsNumber (λ proto. list_any (λ listed. listed == proto) (drop l.left l.protos)) l.fn.tail l.tail;
}

abbrev pub decreases-loop-left : goal.decreases-loop-left
decreases-loop-left l = l.left
