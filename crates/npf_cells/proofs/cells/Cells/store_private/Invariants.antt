use Rattle.npf_cells.specs.Telling.{untold}
use Rattle.npf_cells.proofs.cells.Cells.store_private.Given as goal

abbrev pub ghosts-store_private_as : goal.ghosts-store_private_as
ghosts-store_private_as g a = record { told = record untold { layout = a.self.now.table.shared.key; pool = a.pool; number = a.place; field = a.field } }
