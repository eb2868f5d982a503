use Rattle.std.proofs.Common.{subst}
use Rattle.npf_engine.specs.declared.outcome.Outcome.{Outcome}
use Rattle.npf_report.{specs.TotalText.AddsOutcome, proofs.CountLemmas.one_counted}
use Rattle.npf_report.proofs.totals.Counts.of.Goals as goal

pub loop-outcome-preserved : goal.loop-outcome-preserved
loop-outcome-preserved c =
    let adds = subst (λ (outcome : Outcome). AddsOutcome outcome c.loop-outcome.counts c.add.new.self) c.outcome-item.is c.add.ensures in
    record { counts = one_counted c.args.outcomes.now c.loop-outcome.outcome-index c.outcome-item.result c.loop-outcome-test.true c.loop-outcome.counts _ c.loop-outcome.invariant.counts adds }
