-- What is copied of a table's slots.
use Rattle.std.specs.Prelude.{◌≡◌, ◌<◌, ℕ, Option, Some, None, List, Contains, map}
use Rattle.std.specs.List.{All}
use Rattle.npf_types.specs.declared.key.Key.{Key}
use Rattle.npf_types.specs.declared.key.Way.TheVariants.{Forward}
use Rattle.npf_core.specs.declared.conn_id.ConnId.{ConnId}
use Rattle.npf_core.specs.declared.kept.Kept.{Kept}
use Rattle.npf_core.specs.Machine.{Machine, stage_of, IsLive, Holds}
use Rattle.npf_flow.specs.declared.flow.Flow.{Flow}
use Rattle.npf_saved.specs.declared.saved.Saved.{Saved}
use Rattle.npf_saved_file.specs.Conns.{AreDistinct}
use Rattle.npf_connsave.specs.Saves.{IsSavedAs, saved_flow}

abbrev pub saved_by : Kept Flow → Option Key → Option Saved
saved_by kept None = None
saved_by kept (Some forward) = Some (record { forward = forward; port = kept.port; backward = kept.backward; flow = saved_flow kept.state })

-- what is saved of a connection, if it holds a forward key
abbrev pub saved_of : Kept Flow → Option Saved
saved_of kept = saved_by kept kept.forward

-- the connection lies in one of the first slots
pub record IsCopied (k : Machine Flow) (slots : ℕ) (saved : Saved) : Type 0 where
  pub id : ConnId
  pub there : id.slot < slots
  pub is : IsSavedAs k id saved

abbrev pub forward_keys : List Saved → List Key
forward_keys conns = map (λ saved. saved.forward) conns

-- these are the Live connections of the first slots that hold a forward key, each once
pub record AreCopied (k : Machine Flow) (slots : ℕ) (conns : List Saved) : Type 0 where
  pub each : All (IsCopied k slots) conns
  pub all : (id : ConnId) (key : Key) → id.slot < slots → IsLive (stage_of k id) → Holds k id Forward key → (saved : Saved) × Contains conns saved × (saved.forward ≡ key)
  pub apart : AreDistinct (forward_keys conns)
