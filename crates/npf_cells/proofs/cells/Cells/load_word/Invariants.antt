use Rattle.npf_cells.specs.Telling.{untold}
use Rattle.npf_cells.proofs.cells.Cells.load_word.Given as goal

abbrev pub ghosts-load_word_as : goal.ghosts-load_word_as
ghosts-load_word_as g a = record { told = record untold { layout = a.self.now.table.shared.key; pool = a.pool; number = a.place; field = a.field } }
