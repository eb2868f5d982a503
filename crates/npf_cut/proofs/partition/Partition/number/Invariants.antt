use Rattle.npf_cut.specs.declared.partition.TheConstants.{NONE}
use Rattle.npf_cut.proofs.PartitionLemmas.{HasNumbered}
use Rattle.npf_cut.proofs.partition.Partition.number.Given as goal

abbrev pub invariant-loop-interval : goal.invariant-loop-interval
invariant-loop-interval l = HasNumbered NONE l.fn.self.classes.items l.self.classes.items l.numbers.items l.firsts.items l.interval
