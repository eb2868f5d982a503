use Rattle.npf_cells.specs.Telling.{untold}
use Rattle.npf_cells.proofs.cells.Cells.load_pool.Given as goal

abbrev pub ghosts-load_pool_as : goal.ghosts-load_pool_as
ghosts-load_pool_as g a = record { told = record untold { layout = a.self.now.table.shared.key; pool = a.pool; word = a.word } }
