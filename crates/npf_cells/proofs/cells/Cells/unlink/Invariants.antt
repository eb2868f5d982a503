use Rattle.npf_cells.specs.Telling.{untold}
use Rattle.npf_cells.proofs.cells.Cells.unlink.Given as goal

abbrev pub ghosts-unlink_as : goal.ghosts-unlink_as
ghosts-unlink_as g a = record { told = record untold { id = a.id; way = a.way; place = a.place } }
