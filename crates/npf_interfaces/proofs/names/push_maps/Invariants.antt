use Rattle.std.{proofs.Common.{◌≡◌, ◌++◌, take}, specs.List.flat_map}
use Rattle.npf_interfaces.specs.Names.{map_names}
use Rattle.npf_interfaces.proofs.names.push_maps.Given as goal

abbrev pub invariant-loop-map : goal.invariant-loop-map
invariant-loop-map l = l.names.items ≡ l.initial.names.items ++ flat_map map_names (take l.map-index l.maps)
