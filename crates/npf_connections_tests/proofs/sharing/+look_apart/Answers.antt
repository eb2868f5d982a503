use Rattle.npf_connections_tests.proofs.JoinedLemmas.{takes_in_looks}
use Rattle.npf_connections_tests.proofs.sharing.+look_apart.Goals as goal

pub returns-then-is_some-clause-looks : goal.returns-then-is_some-clause-looks
returns-then-is_some-clause-looks g t c =
    let V = g.C.Connections.view in
    takes_in_looks (V c.args.pass.now) (V c.split-other.new.pass) (V c.split-other.result) (V c.look_once-found.new.pass)
    (V c.look_apart-more.new.pass) (V c.join.new.pass) c.args.count c.args.key c.look_once-found.result
    c.split-other.ensures.splits c.look_once-found.ensures.did c.join.ensures.joins c.look_apart-more.ensures.looks

pub returns-else-is_some-clause-looks : goal.returns-else-is_some-clause-looks
returns-else-is_some-clause-looks g t c =
    let V = g.C.Connections.view in
    takes_in_looks (V c.args.pass.now) (V c.split-other.new.pass) (V c.split-other.result) (V c.look_once-found.new.pass)
    (V c.look_apart-more.new.pass) (V c.join.new.pass) c.args.count c.args.key c.look_once-found.result
    c.split-other.ensures.splits c.look_once-found.ensures.did c.join.ensures.joins c.look_apart-more.ensures.looks
