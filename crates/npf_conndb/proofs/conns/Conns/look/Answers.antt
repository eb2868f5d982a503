use Rattle.std.proofs.Common.{ap, ◌∙◌, arith}
use Rattle.npf_cells_rule.specs.Passes.{cell_pass, is_pinned}
use Rattle.npf_conndb.proofs.PassLemmas.{hands, goes_between, goes_on, begins}
use Rattle.npf_conndb.proofs.conns.Conns.look.Goals as goal

pub returns-clause-inside : goal.returns-clause-inside
returns-clause-inside g c =
    let so = c.look.ensures.looks in
    record {
      own = record {
        own = c.look.ensures.own;
        between = goes_between g.L.Law.meaning _ _ (ap (λ y. hands y.0) so.is) (ap (λ y. y.0.pools.builds) so.is)
            (ap (λ y. y.0.pools.notes) so.is) c.requires.inside.legal so.legal (begins _ _ _ so.adds.adds) c.requires.inside.own.between;
      };
      legal = so.legal;
      entered = ap (λ y. is_pinned y.0.epochs.pin) so.is ∙ c.requires.inside.entered;
    }

pub returns-clause-view : goal.returns-clause-view
returns-clause-view g c = goes_on _ _ _ _ (ap (λ y. cell_pass y.0) c.look.ensures.looks.is) (omega arith)
