use Rattle.npf_cells.specs.Telling.{untold}
use Rattle.npf_cells.proofs.cells.Cells.load_place.Given as goal

abbrev pub ghosts-look_place : goal.ghosts-look_place
ghosts-look_place g a = record { told = record untold { layout = a.self.now.table.shared.key; packet = a.n; key = a.key.now; place = a.place } }

abbrev pub ghosts-hold_place : goal.ghosts-hold_place
ghosts-hold_place g a = record { told = record untold { layout = a.self.now.table.shared.key; id = a.id; key = a.key.now; way = a.way; place = a.place } }
