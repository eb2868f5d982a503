use Rattle.std.proofs.Common.{◌≡◌, map, take}
use Rattle.npf_types.specs.Name.{name_bytes}
use Rattle.npf_expand_values.specs.Place.{ArePlaces}
use Rattle.npf_expand_values.proofs.iface.places_of.Given as goal

abbrev pub invariant-loop-iface : goal.invariant-loop-iface
invariant-loop-iface l = record {
  counted : l.places.count ≡ l.iface-index;
  named : ArePlaces l.places (take l.iface-index (map (λ iface. name_bytes iface.name) l.fn.list));
}
