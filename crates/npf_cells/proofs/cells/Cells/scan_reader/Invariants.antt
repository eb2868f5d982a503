use Rattle.npf_cells.specs.Telling.{untold}
use Rattle.npf_cells.proofs.cells.Cells.scan_reader.Given as goal

abbrev pub ghosts-scan_reader_as : goal.ghosts-scan_reader_as
ghosts-scan_reader_as g a = record { told = record untold { layout = a.self.now.table.shared.key } }
