use Rattle.npf_cells.specs.Telling.{untold}
use Rattle.npf_cells.proofs.cells.Cells.claim_node.Given as goal

abbrev pub ghosts-claim_node_as : goal.ghosts-claim_node_as
ghosts-claim_node_as g a = record { told = record untold { layout = a.self.now.table.shared.key; number = a.node } }
