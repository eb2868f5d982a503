use Rattle.npf_cells.specs.Telling.{untold}
use Rattle.npf_cells.proofs.cells.Cells.try_lock.Given as goal

abbrev pub ghosts-try_lock_as : goal.ghosts-try_lock_as
ghosts-try_lock_as g a = record { told = record untold { layout = a.self.now.table.shared.key; lock = a.lock } }
