use Rattle.std.proofs.Common.{ap, ◌∙◌}
use Rattle.npf_cells_rule.specs.Passes.{is_pinned}
use Rattle.npf_conndb.proofs.PassLemmas.{idle_pin}
use Rattle.npf_conndb.proofs.conns.ConnsConnections.collect.Goals as goal

pub collect-requires-clause-out : goal.collect-requires-clause-out
collect-requires-clause-out g c = idle_pin _ c.requires.out.out

pub returns-clause-out : goal.returns-clause-out
returns-clause-out g c =
    let e = c.collect.ensures in
    record {
      own = record { own = e.own; between = e.stays.between };
      legal = e.stays.legal;
      out = ap is_pinned e.stays.pin ∙ c.requires.out.out;
    }
