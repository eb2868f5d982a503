use Rattle.npf_cells.specs.Telling.{untold}
use Rattle.npf_cells.proofs.cells.Cells.load_key.Given as goal

abbrev pub ghosts-load_key_as : goal.ghosts-load_key_as
ghosts-load_key_as g a = record { told = record untold { layout = a.self.now.table.shared.key; number = a.slot; way = a.way; word = a.word } }
