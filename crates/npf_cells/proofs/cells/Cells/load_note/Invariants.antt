use Rattle.npf_cells.specs.Telling.{untold}
use Rattle.npf_cells.proofs.cells.Cells.load_note.Given as goal

abbrev pub ghosts-load_note_as : goal.ghosts-load_note_as
ghosts-load_note_as g a = record { told = record untold { layout = a.self.now.table.shared.key; number = a.slot; way = a.way } }
