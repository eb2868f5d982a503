use Rattle.std.proofs.Common.{◌<◌, [], ap, sym, ◌∙◌, subst}
use Rattle.npf_connections.specs.Pass.{IsPass}
use Rattle.npf_cells_rule.specs.Passes.{cell_pass, is_pinned}
use Rattle.npf_conndb.proofs.PassLemmas.{hands, goes_between, adds_nothing, begins}
use Rattle.npf_conndb.proofs.conns.ConnsConnections.copy_slot.Goals as goal

pub copy_slot-requires-clause-exists : goal.copy_slot-requires-clause-exists
copy_slot-requires-clause-exists g c = subst (λ n. c.args.slot < n) c.requires.out.own.own.sized c.requires.exists

pub returns-clause-out : goal.returns-clause-out
returns-clause-out g c =
    let m = g.L.Law.meaning in
    let old = c.args.pass.now.cells.seat.me in
    let now = c.copy_slot.new.pass.seat.me in
    let is = c.copy_slot.ensures.copied.is in
    let legal = subst (λ y. IsPass m (cell_pass y.0)) (sym is) c.requires.out.legal in
    let on = begins (cell_pass old.0) now.0.seats.history [] (adds_nothing (cell_pass old.0) now.0.seats.history (ap (λ y. y.0.seats.history) is)) in
    record {
      own = record {
        own = c.copy_slot.ensures.own;
        between = goes_between m old.0 now.0 (ap (λ y. hands y.0) is) (ap (λ y. y.0.pools.builds) is) (ap (λ y. y.0.pools.notes) is) c.requires.out.legal legal on c.requires.out.own.between;
      };
      legal = legal;
      out = ap (λ y. is_pinned y.0.epochs.pin) is ∙ c.requires.out.out;
    }

pub returns-clause-same : goal.returns-clause-same
returns-clause-same g c = ap (λ y. cell_pass y.0) c.copy_slot.ensures.copied.is
