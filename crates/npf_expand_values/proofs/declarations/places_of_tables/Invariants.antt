use Rattle.std.proofs.Common.{◌≡◌, map, take}
use Rattle.npf_types.specs.Name.{name_bytes}
use Rattle.npf_expand_values.specs.Place.{ArePlaces}
use Rattle.npf_expand_values.proofs.declarations.places_of_tables.Given as goal

abbrev pub invariant-loop-table : goal.invariant-loop-table
invariant-loop-table l = record {
  counted : l.places.count ≡ l.table-index;
  named : ArePlaces l.places (take l.table-index (map (λ table. name_bytes table.name) l.fn.tables));
}
