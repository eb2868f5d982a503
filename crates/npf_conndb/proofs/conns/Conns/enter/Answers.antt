use Rattle.std.proofs.Common.{ap}
use Rattle.npf_conndb.proofs.{PassLemmas.{idle_pin, goes_on, adds_nothing}, StayLemmas.{entered_shows, entered_later, entered_pass, entered_between}}
use Rattle.npf_cells_rule.proofs.PassLemmas.{pinned_in}
use Rattle.npf_conndb.proofs.conns.Conns.enter.Goals as goal

pub enter-requires-clause-idle : goal.enter-requires-clause-idle
enter-requires-clause-idle g c = idle_pin _ c.requires.out.out

pub returns-clause-inside : goal.returns-clause-inside
returns-clause-inside g c =
    let e = c.enter.ensures in
    record {
      own = record { own = e.own; between = entered_between g.L.Law.meaning _ _ e.same e.protected e.enters (c.requires.out.legal.idle c.requires.out.out) c.requires.out.own.between };
      legal = entered_pass g.L.Law.meaning _ _ e.same e.protected e.enters c.requires.out.legal;
      entered = pinned_in _ e.protected;
    }

pub returns-clause-adds : goal.returns-clause-adds
returns-clause-adds g c = adds_nothing _ _ (ap (λ y. y.0.seats.history) c.enter.ensures.same)

pub returns-clause-view : goal.returns-clause-view
returns-clause-view g c =
    let e = c.enter.ensures in
    goes_on _ _ _ _ (entered_shows g.L.Law.meaning _ _ e.same e.protected e.enters) (entered_later g.L.Law.meaning _ _ e.same e.protected e.enters)
