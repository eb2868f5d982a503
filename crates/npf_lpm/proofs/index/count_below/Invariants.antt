use Rattle.npf_lpm.specs.{Cut.IsLowCut, Index.bucket}
use Rattle.npf_lpm.proofs.index.count_below.Given as goal

abbrev pub invariant-loop-place : goal.invariant-loop-place
invariant-loop-place l = IsLowCut (bucket l.base l.shift) l.limit l.firsts l.place
