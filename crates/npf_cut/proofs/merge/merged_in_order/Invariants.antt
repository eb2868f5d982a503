use Rattle.npf_cut.proofs.RangeLemmas.{HasMerged}
use Rattle.npf_cut.proofs.merge.merged_in_order.Given as goal

abbrev pub invariant-loop-range : goal.invariant-loop-range
invariant-loop-range l = HasMerged l.ranges l.merged.items l.last l.range-index
