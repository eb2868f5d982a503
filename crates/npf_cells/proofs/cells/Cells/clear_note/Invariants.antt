use Rattle.npf_cells.specs.Telling.{untold}
use Rattle.npf_cells.proofs.cells.Cells.clear_note.Given as goal

abbrev pub ghosts-clear_note_as : goal.ghosts-clear_note_as
ghosts-clear_note_as g a = record { told = record untold { id = a.id } }
