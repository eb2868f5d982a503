-- What a pass has seen of a connection that it killed.
use Rattle.std.specs.Prelude.{Contains}
use Rattle.atomic_table.specs.Table.{Me}
use Rattle.npf_core.specs.declared.conn_id.ConnId.{ConnId}
use Rattle.npf_core.specs.History.{state_of}
use Rattle.npf_core.specs.Meaning.{Meaning}
use Rattle.npf_connections.specs.Pass.{IsPass}
use Rattle.npf_cells_lives.specs.Deaths.{IsKeyless}
use Rattle.npf_cells_lives.specs.Turns.{Running}
use Rattle.npf_cells_rule.specs.declared.view.CellView.{CellView}
use Rattle.npf_cells_rule.specs.Passes.{cell_pass}
use Rattle.npf_cells_takes.specs.PrivateKinds.{HasSeenBare}
use Rattle.npf_turn.specs.Done.{HasKilled}

-- one that it built and had seen without keys, it has seen Dead and without keys once it killed it
abbrev pub KillsBare : {S A R : Type 0} → Meaning S A R → Type 0
KillsBare {S} {A} {R} m = (id : ConnId) (old now : Me (Running S) (CellView S A R)) → Contains old.0.pools.builds id → HasKilled m id old now → IsPass m (cell_pass old.0) →
    IsKeyless (state_of m old.0.seats.history) id → HasSeenBare m now.0 id
