use Rattle.std.proofs.Common.{◌∙◌, sym}
use Rattle.npf_ctl.specs.Reasons.{LeavesBehind}
use Rattle.npf_ctl.proofs.reasons.remains_behind.Goals as goal

pub returns-in-None-clause-leaves : goal.returns-in-None-clause-leaves
returns-in-None-clause-leaves c = LeavesBehind.last (sym c.next_place.ensures ∙ c.in-None.is)

pub returns-in_ok-behind-in-Some-clause-leaves : goal.returns-in_ok-behind-in-Some-clause-leaves
returns-in_ok-behind-in-Some-clause-leaves c = LeavesBehind.left (sym c.next_place.ensures ∙ c.in-Some.is) c.in_ok-behind-in-Some.ensures.taken
