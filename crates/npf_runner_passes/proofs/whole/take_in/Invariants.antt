use Rattle.std.{proofs.Common.{All, map}, specs.Vec.Iter.into_iter_items}
use Rattle.npf_connections.specs.Stay.{IsOut}
use Rattle.npf_runner_passes.proofs.WholeLemmas.{TakesIn}
use Rattle.npf_runner_passes.proofs.whole.take_in.Given as goal

abbrev pub invariant-loop-other : goal.invariant-loop-other
invariant-loop-other g l =
    (goal.iterator-loop-other g).can_next l.other-iterator ×
    (goal.iterator-loop-other g).is_finite l.other-iterator
    × IsOut g.L.Law.meaning (g.C.Connections.fits l.conns) g.C.Connections.view l.pass
    × All (IsOut g.L.Law.meaning (g.C.Connections.fits l.conns) g.C.Connections.view) (into_iter_items l.other-iterator)
    × ((now : _) → TakesIn (g.C.Connections.view l.pass) (map g.C.Connections.view (into_iter_items l.other-iterator)) now →
    TakesIn (g.C.Connections.view l.initial.pass) (map g.C.Connections.view l.fn.others.items) now)
