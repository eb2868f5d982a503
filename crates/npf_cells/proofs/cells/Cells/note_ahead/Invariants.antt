use Rattle.npf_cells.specs.Telling.{untold}
use Rattle.npf_cells.proofs.cells.Cells.note_ahead.Given as goal

abbrev pub ghosts-note_ahead_as : goal.ghosts-note_ahead_as
ghosts-note_ahead_as g a = record { told = record untold { way = a.way } }
