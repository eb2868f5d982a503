use Rattle.std.proofs.Common.{rules}
use Rattle.npf_cells.proofs.cells.Cells.publish_place.Goals.{in_default-via-in-Some+in_default, in_default-via-in_default}
use Rattle.npf_cells.proofs.cells.Cells.publish_place.Goals as goal

pub publish_same-requires-clause-unmarked : goal.publish_same-requires-clause-unmarked
publish_same-requires-clause-unmarked g c = elim c.in_default.branch [
  | in_default-via-in-Some+in_default w ↦ absurd (let no : ⊥ = search rules in no)
  | in_default-via-in_default w ↦ (rw w.in_default.is at c.requires.may).3
]
