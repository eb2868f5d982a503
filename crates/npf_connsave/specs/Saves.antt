-- The text of a machine's connections.
-- READ 2 of docs/READING.md
use Rattle.std.specs.Prelude.{◌≡◌, ℕ, List, Contains}
use Rattle.std.specs.List.{All}
use Rattle.npf_types.specs.declared.key.Key.{Key}
use Rattle.npf_types.specs.declared.key.Way.TheVariants.{Forward, Backward, Port}
use Rattle.npf_types.specs.declared.name.Name.{Name}
use Rattle.npf_core.specs.declared.conn_id.ConnId.{ConnId}
use Rattle.npf_core.specs.declared.stage.Stage.TheVariants.{Live}
use Rattle.npf_core.specs.Copying.{HoldsIf}
use Rattle.npf_core.specs.Machine.{Machine, stage_of, IsLive, Holds}
use Rattle.npf_flow.specs.declared.flow.Flow.{Flow}
use Rattle.npf_saved.specs.declared.saved.Saved.{Saved}
use Rattle.npf_saved.specs.File.{saved_text}
use Rattle.npf_saved_file.specs.Conns.{AreRising}

-- the number of the packet that opened the flow isn't saved
abbrev pub saved_flow : Flow → Flow
saved_flow flow = record flow { opener = 0 }

-- the identity is Live with this flow, and holds these keys and none of another way
pub record IsSavedAs (k : Machine Flow) (id : ConnId) (saved : Saved) : Type 0 where
  pub flow : Flow
  pub steps : ℕ
  pub live : stage_of k id ≡ Live flow steps
  pub same : saved.flow ≡ saved_flow flow
  pub forward : Holds k id Forward saved.forward
  pub port : HoldsIf k id Port saved.port
  pub backward : HoldsIf k id Backward saved.backward

abbrev pub IsSavedOf : Machine Flow → Saved → Type 0
IsSavedOf k saved = (id : ConnId) × IsSavedAs k id saved

-- these are the Live connections that hold a forward key, each once, and they rise by it
pub record AreSavedOf (k : Machine Flow) (conns : List Saved) : Type 0 where
  pub each : All (IsSavedOf k) conns
  pub all : (id : ConnId) (key : Key) → IsLive (stage_of k id) → Holds k id Forward key → (saved : Saved) × Contains conns saved × (saved.forward ≡ key)
  pub rising : AreRising conns

-- the text is that of the machine's connections
pub record IsSavedText (k : Machine Flow) (names : List Name) (text : List ℕ) : Type 0 where
  pub conns : List Saved
  pub saved : AreSavedOf k conns
  pub spelled : text ≡ saved_text names conns
