use Rattle.npf_cut.proofs.PartitionLemmas.{IsSplitTo}
use Rattle.npf_cut.proofs.partition.Partition.split.Given as goal

abbrev pub invariant-loop-interval : goal.invariant-loop-interval
invariant-loop-interval l = IsSplitTo l.fn.self l.self l.fresh l.fn.span.from l.interval
