use Rattle.std.proofs.Common.{◌≤◌, take}
use Rattle.npf_expand_values.specs.{Declarations.table_names, Place.ArePlaces}
use Rattle.npf_expand_values.proofs.declarations.table_places.Given as goal

abbrev pub invariant-loop-stmt : goal.invariant-loop-stmt
invariant-loop-stmt l = record { counted : l.places.count ≤ l.stmt-index; named : ArePlaces l.places (table_names (take l.stmt-index l.fn.stmts)) }
