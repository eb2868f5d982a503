use Rattle.npf_cells.specs.Telling.{untold}
use Rattle.npf_cells.proofs.cells.Cells.try_turn.Given as goal

abbrev pub ghosts-try_turn_as : goal.ghosts-try_turn_as
ghosts-try_turn_as g a = record { told = record untold { layout = a.self.now.table.shared.key; number = a.slot } }
