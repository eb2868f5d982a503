-- Which passes are of a table.
use Rattle.npf_cells_rule.specs.Passes.{IsPassOf}
use Rattle.npf_cells.specs.declared.cells.CellPass.{CellPass}
use Rattle.npf_cells.specs.declared.cells.Cells.{Cells}

-- the pass is one of this table, between two calls
abbrev pub IsPassIn : {L H S A R : Type 0} → Cells L H S A R → CellPass L S A R → Type 0
IsPassIn cells pass = IsPassOf cells.table.shared.key cells.table.shared.table_id pass.seat.table_id pass.readers.items pass.seat.me
