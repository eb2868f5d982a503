use Rattle.std.proofs.Common.{◌≤◌, take}
use Rattle.npf_report.specs.TotalText.{total_text, CountsOutcomes}
use Rattle.npf_ctl_output.{specs.Report.report_text, proofs.ReportLemmas.IsLeft}
use Rattle.npf_ctl_output.proofs.report.put_report.Given as goal

abbrev pub invariant-loop-place : goal.invariant-loop-place
invariant-loop-place g l = record {
  put : IsLeft l.ifaces.list l.packets l.outcomes (g.O.Sink.moment l.fn.out).held (report_text l.ifaces.list l.packets l.outcomes) (total_text l.outcomes) (g.O.Sink.moment l.out).held l.place;
  counts : CountsOutcomes (take l.place l.outcomes) l.counts;
  counted : (g.O.Sink.moment l.fn.out).faults ≤ (g.O.Sink.moment l.out).faults;
}
