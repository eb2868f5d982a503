use Rattle.npf_cells.specs.Telling.{untold}
use Rattle.npf_cells.proofs.cells.Cells.free_node.Given as goal

abbrev pub ghosts-free_node_as : goal.ghosts-free_node_as
ghosts-free_node_as g a = record { told = record untold { number = a.node } }
