use Rattle.npf_cut.proofs.StartLemmas.{HasStartsTo}
use Rattle.npf_cut.proofs.start.all_starts.Given as goal

abbrev pub invariant-loop-range : goal.invariant-loop-range
invariant-loop-range l = HasStartsTo l.top l.ranges l.starts.items l.range-index
