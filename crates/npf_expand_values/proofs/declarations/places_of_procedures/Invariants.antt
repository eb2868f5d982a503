use Rattle.std.proofs.Common.{◌≡◌, map, take}
use Rattle.npf_expand_values.specs.Place.{ArePlaces}
use Rattle.npf_expand_values.proofs.declarations.places_of_procedures.Given as goal

abbrev pub invariant-loop-procedure : goal.invariant-loop-procedure
invariant-loop-procedure l = record {
  counted : l.places.count ≡ l.procedure-index;
  named : ArePlaces l.places (take l.procedure-index (map (λ procedure. procedure.name) l.fn.procedures));
}
