use Rattle.std.{proofs.Common.{◌≡◌, ◌≤◌, ◌++◌, length, drop}, specs.Prelude.{map, reverse}}
use Rattle.npf_bpf.specs.Table.{insn_of}
use Rattle.npf_bpfgen.proofs.tail.Tail.put.Given as goal

abbrev pub invariant-loop-left : goal.invariant-loop-left
invariant-loop-left l = record {
  left : l.left ≤ length l.front;
  is : reverse l.self-inside.reversed.items ≡ map insn_of (drop l.left l.front) ++ reverse l.initial.self-inside.reversed.items;
}

abbrev pub decreases-loop-left : goal.decreases-loop-left
decreases-loop-left l = l.left
