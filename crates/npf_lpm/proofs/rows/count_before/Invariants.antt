use Rattle.npf_lpm.proofs.RowLemmas.{IsHighCut}
use Rattle.npf_lpm.proofs.rows.count_before.Given as goal

abbrev pub invariant-loop-place : goal.invariant-loop-place
invariant-loop-place l = IsHighCut l.firsts l.lengths l.block l.count l.place

abbrev pub decreases-loop-place : goal.decreases-loop-place
decreases-loop-place l = l.place
