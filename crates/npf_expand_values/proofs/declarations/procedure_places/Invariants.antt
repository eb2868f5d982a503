use Rattle.std.proofs.Common.{◌≤◌, take}
use Rattle.npf_expand_values.specs.{Declarations.procedure_names, Place.ArePlaces}
use Rattle.npf_expand_values.proofs.declarations.procedure_places.Given as goal

abbrev pub invariant-loop-stmt : goal.invariant-loop-stmt
invariant-loop-stmt l = record { counted : l.places.count ≤ l.stmt-index; named : ArePlaces l.places (procedure_names (take l.stmt-index l.fn.stmts)) }
