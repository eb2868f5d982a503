use Rattle.npf_cells.specs.Telling.{untold}
use Rattle.npf_cells.proofs.cells.Cells.store_node.Given as goal

abbrev pub ghosts-store_node_as : goal.ghosts-store_node_as
ghosts-store_node_as g a = record { told = record untold { layout = a.self.now.table.shared.key; lock = a.lock; state = a.state } }
