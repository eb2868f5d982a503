use Rattle.std.{proofs.Common.{◌≡◌, take}, specs.List.sum_by}
use Rattle.npf_config_changes.specs.Elements.{group_elements}
use Rattle.npf_config_changes.proofs.limit.groups_elements.Given as goal

abbrev pub invariant-loop-group : goal.invariant-loop-group
invariant-loop-group l = l.total ≡ sum_by group_elements (take l.group-index l.groups)
