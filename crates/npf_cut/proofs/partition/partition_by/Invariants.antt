use Rattle.std.{proofs.Common.{◌≡◌, ◌+◌, ◌-◌, ◌≤◌, length, take, vec_len}}
use Rattle.npf_cut.specs.{Partition.{AreKnown, RespectsSets}, Span.interval_count}
use Rattle.npf_cut.proofs.partition.partition_by.Given as goal

abbrev pub invariant-loop-from : goal.invariant-loop-from
invariant-loop-from l = record {
  within : l.from ≤ length l.spans;
  count : vec_len l.partition.classes ≡ l.count;
  known : AreKnown l.partition.classes.items l.partition.parts.items;
  respects : RespectsSets (take l.from l.spans) l.partition.classes.items;
  counted : l.fn.steps.taken + interval_count (take l.from l.spans) ≤ l.steps.taken;
  most : l.steps.most ≡ l.fn.steps.most;
  rises : l.fn.steps.taken ≤ l.steps.taken;
}

abbrev pub decreases-loop-from : goal.decreases-loop-from
decreases-loop-from l = length l.spans - l.from
