use Rattle.npf_cells.specs.Telling.{untold}
use Rattle.npf_cells.proofs.cells.Cells.claim_slot.Given as goal

abbrev pub ghosts-claim_slot_as : goal.ghosts-claim_slot_as
ghosts-claim_slot_as g a = record { told = record untold { layout = a.self.now.table.shared.key; number = a.slot; packet = a.n } }
