use Rattle.std.proofs.Common.{take}
use Rattle.npf_report.specs.TotalText.{CountsOutcomes}
use Rattle.npf_report.proofs.totals.Counts.of.Given as goal

abbrev pub invariant-loop-outcome : goal.invariant-loop-outcome
invariant-loop-outcome l = record { counts : CountsOutcomes (take l.outcome-index l.fn.outcomes) l.counts }
