use Rattle.std.proofs.Common.{ap, ◌∙◌, inr, arith}
use Rattle.npf_cells_rule.specs.Passes.{cell_pass, is_pinned}
use Rattle.npf_seats.proofs.PrefixLemmas.{none_listed}
use Rattle.npf_conndb.proofs.{PassLemmas.{hands, goes_on, begins}, TurnLemmas.{known_exists, started_between}}
use Rattle.npf_conndb.proofs.conns.ConnsConnections.start.Goals as goal

pub start-requires-clause-exists : goal.start-requires-clause-exists
start-requires-clause-exists g c = known_exists g.L.Law.meaning _ _ c.args.id c.requires.inside.own.own.sized c.requires.inside.legal (inr c.requires.builds)

pub start-requires-clause-stored : goal.start-requires-clause-stored
start-requires-clause-stored g c = λ owed. none_listed c.args.id.slot (rw c.requires.inside.own.between.stored at owed)

pub start-requires-clause-notes : goal.start-requires-clause-notes
start-requires-clause-notes g c = c.requires.inside.own.between.noted c.args.id c.requires.builds

pub returns-clause-inside : goal.returns-clause-inside
returns-clause-inside g c =
    let so = c.start.ensures.starts in
    record {
      own = record {
        own = c.start.ensures.own;
        between = started_between g.L.Law.meaning _ _ c.args.id (ap (λ y. hands y.0) so.is) c.requires.inside.legal
            (so.legal c.requires.inside.legal) (begins _ _ _ so.adds.adds) c.requires.builds (ap (λ y. y.0.pools.builds) so.is) (ap (λ y. y.0.pools.notes) so.is) c.requires.inside.own.between;
      };
      legal = so.legal c.requires.inside.legal;
      entered = ap (λ y. is_pinned y.0.epochs.pin) so.is ∙ c.requires.inside.entered;
    }

pub returns-clause-view : goal.returns-clause-view
returns-clause-view g c = goes_on _ _ _ _ (ap (λ y. cell_pass y.0) c.start.ensures.starts.is) (omega arith)
