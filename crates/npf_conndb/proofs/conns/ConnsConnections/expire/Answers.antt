use Rattle.npf_conndb.proofs.{PassLemmas.idle_pin, StayLemmas.{entered_pass, entered_between}}
use Rattle.npf_conndb.proofs.VisitLemmas.{visit_between, visit_pass, visit_out, visit_expires, visit_goes}
use Rattle.npf_conndb.proofs.conns.ConnsConnections.expire.Goals as goal

pub enter-requires-clause-idle : goal.enter-requires-clause-idle
enter-requires-clause-idle g c = idle_pin _ c.requires.out.out

pub expire_all-count-requires-clause-legal : goal.expire_all-count-requires-clause-legal
expire_all-count-requires-clause-legal g c =
    let e = c.enter.ensures in
    entered_pass g.L.Law.meaning _ _ e.same e.protected e.enters c.requires.out.legal

pub expire_all-count-requires-clause-between : goal.expire_all-count-requires-clause-between
expire_all-count-requires-clause-between g c =
    let e = c.enter.ensures in
    entered_between g.L.Law.meaning _ _ e.same e.protected e.enters (c.requires.out.legal.idle c.requires.out.out) c.requires.out.own.between

pub returns-clause-out : goal.returns-clause-out
returns-clause-out g c =
    let e = c.enter.ensures in
    let x = c.expire_all-count.ensures in
    let l = c.leave.ensures in
    let old = c.args.pass.now.cells.seat.me in
    let after = c.expire_all-count.new.pass.seat.me in
    record {
      own = record { own = l.own; between = visit_between g.L.Law.meaning old _ after _ c.requires.out.legal c.requires.out.out e.same e.protected e.enters x.stays l.next };
      legal = visit_pass g.L.Law.meaning old _ after _ c.requires.out.legal c.requires.out.out e.same e.protected e.enters x.stays l.next;
      out = visit_out g.L.Law.meaning old _ after _ c.requires.out.legal c.requires.out.out e.same e.protected e.enters x.stays l.next;
    }

pub returns-clause-adds : goal.returns-clause-adds
returns-clause-adds g c =
    let e = c.enter.ensures in
    let x = c.expire_all-count.ensures in
    visit_expires g.L.Law.meaning c.args.pass.now.cells.seat.me _ c.expire_all-count.new.pass.seat.me _ c.requires.out.legal c.requires.out.out e.same
    e.protected e.enters x.stays c.leave.ensures.next c.args.now _ c.expire_all-count.result c.requires.out.own.own.sized x.expires

pub returns-clause-view : goal.returns-clause-view
returns-clause-view g c =
    let e = c.enter.ensures in
    visit_goes g.L.Law.meaning c.args.pass.now.cells.seat.me _ c.expire_all-count.new.pass.seat.me _ c.requires.out.legal
    c.requires.out.out e.same e.protected e.enters c.expire_all-count.ensures.stays c.leave.ensures.next
