use Rattle.std.proofs.Common.{◌≡◌, ◌∙◌, true, sym, ap}
use Rattle.npf_tcp.specs.{declared.{class.SegmentClass.TheVariants.Rst, state.TcpPhase.TcpPhase}, Cell.cell, Class.segment_class}
use Rattle.npf_tcp.proofs.{CellLemmas.closed_cell, SegmentLemmas.step_cases}
use Rattle.npf_tcp.proofs.laws.closed_takes_only_reset.Goals as goal

pub returns : goal.returns
returns c = λ state way seg closed.
    step_cases state way seg (λ r. r.1 ≡ true → segment_class seg.flags ≡ Rst)
    (λ phase led bounded accepted. closed_cell way (segment_class seg.flags) phase (ap (λ (p : TcpPhase). cell p way (segment_class seg.flags)) (sym closed) ∙ led))
    (λ accepted. absurd (cc))
