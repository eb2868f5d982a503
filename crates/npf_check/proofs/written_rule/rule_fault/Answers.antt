use Rattle.npf_check.{specs.{Family.family_faults, Port.port_faults}, proofs.FaultLemmas.joined}
use Rattle.npf_check.proofs.written_rule.rule_fault.Goals as goal

pub returns : goal.returns
returns c = joined (family_faults c.args.span c.args.rule.now) (port_faults c.args.span c.args.rule.now) _ _ _
    c.family_fault.ensures c.port_fault.ensures c.earlier.ensures
