use Rattle.npf_lpm.proofs.CutLemmas.{IsRenewedTo}
use Rattle.npf_lpm.proofs.index.Index.renew.Given as goal

abbrev pub invariant-loop-bucket : goal.invariant-loop-bucket
invariant-loop-bucket l = IsRenewedTo l.firsts l.self.base l.self.shift l.self.counts.items l.bucket l.below
