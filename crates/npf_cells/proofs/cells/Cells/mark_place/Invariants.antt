use Rattle.npf_cells.specs.Telling.{untold}
use Rattle.npf_cells.proofs.cells.Cells.mark_place.Given as goal

abbrev pub ghosts-mark_place_as : goal.ghosts-mark_place_as
ghosts-mark_place_as g a = record { told = record untold { number = a.node } }
