use Rattle.std.proofs.Common.{ap, ◌∙◌, arith}
use Rattle.npf_cells_rule.specs.Passes.{is_pinned}
use Rattle.npf_conndb.proofs.{BeginLemmas.asked, PassLemmas.goes_on}
use Rattle.npf_conndb.proofs.conns.ConnsConnections.begin.Goals as goal

pub begin-requires-clause-protected : goal.begin-requires-clause-protected
begin-requires-clause-protected g c = c.requires.inside.own.between.protected c.requires.inside.entered

pub returns-clause-inside : goal.returns-clause-inside
returns-clause-inside g c =
    let so = asked g.L.Law.meaning c.args.n _ _ c.begin.result c.begin.ensures.begins c.begin.ensures.sees c.begin.ensures.full in
    record {
      own = record { own = c.begin.ensures.own; between = so.between c.requires.inside.legal c.requires.inside.own.between };
      legal = so.legal c.requires.inside.legal;
      entered = ap is_pinned so.pin ∙ c.requires.inside.entered;
    }

pub returns-clause-adds : goal.returns-clause-adds
returns-clause-adds g c = (asked g.L.Law.meaning c.args.n _ _ c.begin.result c.begin.ensures.begins c.begin.ensures.sees c.begin.ensures.full).adds

pub returns-clause-full : goal.returns-clause-full
returns-clause-full g c = (asked g.L.Law.meaning c.args.n _ _ c.begin.result c.begin.ensures.begins c.begin.ensures.sees c.begin.ensures.full).full

pub returns-clause-bare : goal.returns-clause-bare
returns-clause-bare g c = (asked g.L.Law.meaning c.args.n _ _ c.begin.result c.begin.ensures.begins c.begin.ensures.sees c.begin.ensures.full).bare

pub returns-clause-view : goal.returns-clause-view
returns-clause-view g c =
    goes_on _ _ _ _ (asked g.L.Law.meaning c.args.n _ _ c.begin.result c.begin.ensures.begins c.begin.ensures.sees c.begin.ensures.full).shows (omega arith)
