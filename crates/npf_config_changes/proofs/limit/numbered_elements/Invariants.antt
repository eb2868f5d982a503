use Rattle.std.{proofs.Common.{◌≡◌, take}, specs.List.sum_by}
use Rattle.npf_model.specs.Count.{elements_of}
use Rattle.npf_config_changes.proofs.limit.numbered_elements.Given as goal

abbrev pub invariant-loop-numbered : goal.invariant-loop-numbered
invariant-loop-numbered l = l.total ≡ sum_by (λ numbered. elements_of numbered.1) (take l.numbered-index l.rules)
