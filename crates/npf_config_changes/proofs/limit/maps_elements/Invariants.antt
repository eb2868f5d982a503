use Rattle.std.{proofs.Common.{◌≡◌, ◌*◌, ◌≤◌, take}, specs.List.sum_by}
use Rattle.npf_config_changes.specs.Elements.{filter_elements_of}
use Rattle.npf_config_changes.proofs.limit.maps_elements.Given as goal

abbrev pub invariant-loop-map : goal.invariant-loop-map
invariant-loop-map l = (l.total ≡ sum_by filter_elements_of (take l.map-index l.maps)) × (l.total ≤ 92233720368547758080 * l.map-index)
