use Rattle.npf_cells.specs.Telling.{untold}
use Rattle.npf_cells.proofs.cells.Cells.load_parent.Given as goal

abbrev pub ghosts-load_parent_as : goal.ghosts-load_parent_as
ghosts-load_parent_as g a = record { told = record untold { layout = a.self.now.table.shared.key; number = a.node } }
