use Rattle.std.proofs.Common.{refl, subst}
use Rattle.npf_faults.specs.declared.fault.Refused.{Refused}
use Rattle.npf_expand.specs.Elaborates.{RefusesTree}
use Rattle.npf_ctl_why.specs.Map.{IsReasonInTree}
use Rattle.npf_ctl_why.proofs.map.reason_in_tree.Goals as goal

pub returns-in-Ok : goal.returns-in-Ok
returns-in-Ok c = IsReasonInTree.meant c.in-Ok.model c.in-Ok.ensures.ok c.reason_at.ensures

pub returns-in-Err-Fault : goal.returns-in-Err-Fault
returns-in-Err-Fault c =
    IsReasonInTree.meaningless c.in-Err-Fault.field-0-0
    (subst (λ (r : Refused). RefusesTree c.args.tree.now c.args.ifaces.now.list r) c.in-Err-Fault.field-0-is c.in-Err-Fault.ensures.refused) refl
