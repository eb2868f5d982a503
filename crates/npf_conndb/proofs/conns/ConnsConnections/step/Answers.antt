use Rattle.std.proofs.Common.{ap, ◌∙◌, arith}
use Rattle.npf_cells_rule.specs.Passes.{cell_pass, is_pinned}
use Rattle.npf_conndb.proofs.{PassLemmas.{hands, goes_between, goes_on, begins}, TurnLemmas.known_exists}
use Rattle.npf_conndb.proofs.conns.ConnsConnections.step.Goals as goal

pub step-requires-clause-exists : goal.step-requires-clause-exists
step-requires-clause-exists g c = known_exists g.L.Law.meaning _ _ c.args.id c.requires.inside.own.own.sized c.requires.inside.legal c.requires.known

pub returns-clause-inside : goal.returns-clause-inside
returns-clause-inside g c =
    let so = c.step.ensures.steps in
    record {
      own = record {
        own = c.step.ensures.own;
        between = goes_between g.L.Law.meaning _ _ (ap (λ y. hands y.0) so.is) (ap (λ y. y.0.pools.builds) so.is)
            (ap (λ y. y.0.pools.notes) so.is) c.requires.inside.legal (so.legal c.requires.inside.legal) (begins _ _ _ so.adds.adds) c.requires.inside.own.between;
      };
      legal = so.legal c.requires.inside.legal;
      entered = ap (λ y. is_pinned y.0.epochs.pin) so.is ∙ c.requires.inside.entered;
    }

pub returns-clause-view : goal.returns-clause-view
returns-clause-view g c = goes_on _ _ _ _ (ap (λ y. cell_pass y.0) c.step.ensures.steps.is) (omega arith)
