use Rattle.std.proofs.Common.{ap, arith}
use Rattle.npf_cells_rule.specs.Passes.{is_pinned}
use Rattle.npf_conndb.proofs.{PassLemmas.{stays_pinned, goes_on, adds_nothing}, StayLemmas.{left_shows, left_pass, left_between}}
use Rattle.npf_conndb.proofs.conns.Conns.leave.Goals as goal

pub leave-requires-clause-pinned : goal.leave-requires-clause-pinned
leave-requires-clause-pinned g c = stays_pinned _ c.requires.inside.entered

pub returns-clause-out : goal.returns-clause-out
returns-clause-out g c =
    let e = c.leave.ensures in
    record {
      own = record { own = e.own; between = left_between g.L.Law.meaning c.args.pass.now.cells.seat.me _ e.next c.requires.inside.own.between };
      legal = left_pass g.L.Law.meaning c.args.pass.now.cells.seat.me _ e.next c.requires.inside.legal c.requires.idle;
      out = ap (λ y. is_pinned y.0.epochs.pin) e.next;
    }

pub returns-clause-adds : goal.returns-clause-adds
returns-clause-adds g c = adds_nothing _ _ (ap (λ y. y.0.seats.history) c.leave.ensures.next)

pub returns-clause-view : goal.returns-clause-view
returns-clause-view g c = goes_on _ _ _ _ (left_shows g.L.Law.meaning c.args.pass.now.cells.seat.me _ c.leave.ensures.next) (omega arith)
