use Rattle.npf_cells.specs.Telling.{untold}
use Rattle.npf_cells.proofs.cells.Cells.load_state.Given as goal

abbrev pub ghosts-load_state_as : goal.ghosts-load_state_as
ghosts-load_state_as g a = record { told = record untold { layout = a.self.now.table.shared.key; number = a.node } }
