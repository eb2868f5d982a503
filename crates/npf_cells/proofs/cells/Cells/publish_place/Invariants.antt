use Rattle.npf_cells.specs.Telling.{untold}
use Rattle.npf_cells.proofs.cells.Cells.publish_place.Given as goal

abbrev pub ghosts-publish_key : goal.ghosts-publish_key
ghosts-publish_key g a = record { told = record untold { layout = a.self.now.table.shared.key; id = a.id; key = a.key.now; way = a.way; place = a.place; cell = a.cell } }
