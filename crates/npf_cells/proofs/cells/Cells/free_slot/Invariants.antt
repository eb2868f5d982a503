use Rattle.npf_cells.specs.Telling.{untold}
use Rattle.npf_cells.proofs.cells.Cells.free_slot.Given as goal

abbrev pub ghosts-free_slot_as : goal.ghosts-free_slot_as
ghosts-free_slot_as g a = record { told = record untold { layout = a.self.now.table.shared.key; id = a.id } }
