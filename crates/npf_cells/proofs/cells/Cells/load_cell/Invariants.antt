use Rattle.npf_cells.specs.Telling.{untold}
use Rattle.npf_cells.proofs.cells.Cells.load_cell.Given as goal

abbrev pub ghosts-load_cell_as : goal.ghosts-load_cell_as
ghosts-load_cell_as g a = record { told = record untold { layout = a.self.now.table.shared.key; place = a.place } }
