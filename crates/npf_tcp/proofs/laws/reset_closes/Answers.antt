use Rattle.std.proofs.Common.{◌≡◌, ◌≤◌, ◌∙◌, true, ap}
use Rattle.npf_tcp.specs.{declared.state.TcpPhase.TheVariants.Closed, Cell.cell, Segment.{sender_of, receiver_of}, Sequence.minus}
use Rattle.npf_tcp.proofs.{BoundLemmas.reset_in_order, CellLemmas.cell-rst, SegmentLemmas.{step_cases, step-accepted, state_after-phase}}
use Rattle.npf_tcp.proofs.laws.reset_closes.Goals as goal

pub returns-clause-closes : goal.returns-clause-closes
returns-clause-closes c = λ state way seg rst.
    let closes = ap (cell state.phase way) rst ∙ cell-rst state.phase way in
    step_cases state way seg (λ r. r.1 ≡ true → r.0.phase ≡ Closed)
    (λ phase led bounded accepted. let e = state_after-phase phase state way seg in cc)
    (λ accepted. absurd (cc))

pub returns-clause-bounded : goal.returns-clause-bounded
returns-clause-bounded c = λ state way seg rst.
    step-accepted state way seg Closed (ap (cell state.phase way) rst ∙ cell-rst state.phase way)

pub returns-clause-in_order : goal.returns-clause-in_order
returns-clause-in_order c = λ state way seg strict rst known.
    step_cases state way seg (λ r. r.1 ≡ true → minus (sender_of state way).end seg.seq ≤ 1)
    (λ phase led bounded accepted. reset_in_order state.strict (sender_of state way) (receiver_of state way) seg strict rst known bounded)
    (λ accepted. absurd (cc))
