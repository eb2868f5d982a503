use Rattle.std.proofs.Common.{◌≢◌, ℕ, ◌<◌}
use Rattle.npf_oneturn_store.specs.{Connection.connection_in, declared.phase.SlotPhase.TheVariants.Vacant}
use Rattle.npf_oneturn_store.proofs.store.Store.lowest.Given as goal

abbrev pub invariant-loop-slot : goal.invariant-loop-slot
invariant-loop-slot g l = (s : ℕ) → s < l.slot → (connection_in l.self.connections.items s).phase ≢ Vacant
