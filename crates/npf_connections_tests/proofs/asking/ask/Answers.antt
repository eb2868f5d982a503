use Rattle.npf_core.{specs.History.IsPrefix, proofs.HistoryLemmas.IsPrefix-trans}
use Rattle.npf_connections_tests.proofs.{JoinedLemmas.{begins, stands, stands_on}, asking.ask.Goals.{then-starts, else-starts}}
use Rattle.npf_connections_tests.proofs.asking.ask.Goals as goal

pub returns-clause-asks : goal.returns-clause-asks
returns-clause-asks g c =
    let V = g.C.Connections.view in
    let held = V c.hold-held.new.pass in
    let last = V c.if-starts.pass in
    let now = V c.leave-2.new.pass in
    let ended : IsPrefix held.history last.history = elim c.if-starts.branch [
      | then-starts w ↦ rw w.pass-is (begins held _ _ w.start.ensures.adds.adds)
      | else-starts w ↦ rw w.pass-is (begins held _ _ w.abandon.ensures.adds.adds.adds)
    ] in
    let left : IsPrefix last.history now.history = begins last _ _ c.leave-2.ensures.adds in
    λ some.
    stands_on held.history now.history c.args.key c.in-Some.id c.hold-held.result (IsPrefix-trans held.history last.history now.history ended left)
    (stands (V c.begin.new.pass) held.history c.args.key c.in-Some.id c.hold-held.result c.hold-held.ensures.adds some)
