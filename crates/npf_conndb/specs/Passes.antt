-- Which passes are of a table, and what they show.
use Rattle.npf_core.specs.declared.entry.Entry.{Entry}
use Rattle.npf_core.specs.Meaning.{Meaning}
use Rattle.npf_connections.specs.Pass.{Pass}
use Rattle.npf_cells.specs.Cells.{IsPassIn}
use Rattle.npf_cells_rule.specs.Passes.{cell_pass}
use Rattle.npf_conndb.specs.declared.conns.ConnPass.{ConnPass}
use Rattle.npf_conndb.specs.declared.conns.Conns.{Conns}
use Rattle.npf_conndb.specs.Between.{IsBetweenCalls}

-- the pass is one of this table, between two calls
pub record IsPassOfConns {L H S A R : Type 0} (m : Meaning S A R) (conns : Conns L H S A R) (pass : ConnPass L S A R) : Type 0 where
  pub own : IsPassIn conns.cells pass.cells
  pub between : IsBetweenCalls m pass.cells.seat.me.0

-- what the pass shows
abbrev pub shown : {L S A R : Type 0} → ConnPass L S A R → Pass (Entry S A R)
shown pass = cell_pass pass.cells.seat.me.0
