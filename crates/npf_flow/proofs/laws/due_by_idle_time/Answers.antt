use Rattle.std.proofs.Common.{arith}
use Rattle.npf_flow.{specs.Flows.{accepts, opening_flow}, proofs.{FlowLemmas.{went_on, moved_goes_on, passed_moves}, TimeoutLemmas.not_due}}
use Rattle.npf_flow.proofs.laws.due_by_idle_time.Goals as goal

pub returns-clause-last : goal.returns-clause-last
returns-clause-last c = not_due

pub returns-clause-packet : goal.returns-clause-packet
returns-clause-packet c = λ flow way arg are moves passed.
    rw (moved_goes_on flow way arg (passed_moves arg.peek (accepts flow.kind way arg.seg) moves passed))
    (not_due (went_on flow way arg) arg.now are (omega arith))

pub returns-clause-opening : goal.returns-clause-opening
returns-clause-opening c = λ arg settings opener there back action are. not_due (opening_flow arg settings opener there back action) arg.now are (omega arith)
