use Rattle.npf_cells.specs.Telling.{untold}
use Rattle.npf_cells.proofs.cells.Cells.load_inc.Given as goal

abbrev pub ghosts-load_inc_as : goal.ghosts-load_inc_as
ghosts-load_inc_as g a = record { told = record untold { number = a.slot } }
