-- How a connection is abandoned.
use Rattle.std.specs.Prelude.{Bool, List}
use Rattle.npf_types.specs.declared.key.Way.{Way}
use Rattle.npf_core.specs.declared.act.Why.TheVariants.{Abandoned}
use Rattle.npf_core.specs.declared.conn_id.ConnId.{ConnId}
use Rattle.npf_core.specs.declared.entry.Entry.{Entry}
use Rattle.npf_core.specs.History.{state_of}
use Rattle.npf_core.specs.Meaning.{Meaning}
use Rattle.npf_connections.specs.Adding.{AddsOwn}
use Rattle.npf_connections.specs.Entries.{end_entries}
use Rattle.npf_connections.specs.Pass.{Pass}
use Rattle.npf_connections.specs.Ways.{HoldsThese}

-- it is killed, and each key that it held is given up
pub record Abandons {S A R : Type 0} (m : Meaning S A R) (old : Pass (Entry S A R)) (new : List (Entry S A R)) (id : ConnId) : Type 0 where
  pub held : Way → Bool
  pub holds : HoldsThese (state_of m old.history) id held
  pub adds : AddsOwn old new (end_entries old id Abandoned held)
