use Rattle.npf_cells.specs.Telling.{untold}
use Rattle.npf_cells.proofs.cells.Cells.give_back.Given as goal

abbrev pub ghosts-give_back_as : goal.ghosts-give_back_as
ghosts-give_back_as g a = record { told = record untold { layout = a.self.now.table.shared.key; number = a.place } }
