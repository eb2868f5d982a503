use Rattle.npf_cells.specs.Telling.{untold}
use Rattle.npf_cells.proofs.cells.Cells.clear_mark.Given as goal

abbrev pub ghosts-clear_mark_as : goal.ghosts-clear_mark_as
ghosts-clear_mark_as g a = record { told = record untold { place = a.place; number = a.node } }
