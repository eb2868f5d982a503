use Rattle.std.proofs.Common.{rules}
use Rattle.npf_core.proofs.HistoryLemmas.{IsPrefix-trans}
use Rattle.npf_connections_tests.proofs.JoinedLemmas.{asked_on}
use Rattle.npf_connections_tests.proofs.sharing.ask_at_once.Goals as goal

pub returns-clause-first : goal.returns-clause-first
returns-clause-first g c =
    let V = g.C.Connections.view in
    let history = (V c.join-2.new.pass).history in
    let first = (V c.join-first.result.0.0).history in
    asked_on first history c.args.key c.join-first.result.0.1 (IsPrefix-trans first (V c.join.new.pass).history history c.join.ensures.joins.theirs c.join-2.ensures.joins.mine) (search rules)

pub returns-clause-second : goal.returns-clause-second
returns-clause-second g c =
    let V = g.C.Connections.view in
    asked_on (V c.join-first.result.1.0).history (V c.join-2.new.pass).history c.args.key c.join-first.result.1.1 c.join-2.ensures.joins.theirs (search rules)
