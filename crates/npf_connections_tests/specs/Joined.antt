-- What a pass that took others in has of theirs.
use Rattle.std.specs.Prelude.{◌≡◌, ℕ, List, [], ◌∷◌, Option, Contains}
use Rattle.npf_types.specs.declared.key.Key.{Key}
use Rattle.npf_types.specs.declared.key.Way.TheVariants.{Forward}
use Rattle.npf_core.specs.declared.act.Act.TheVariants.{Look, Hold}
use Rattle.npf_core.specs.declared.conn_id.ConnId.{ConnId}
use Rattle.npf_core.specs.declared.entry.Entry.{Entry}
use Rattle.npf_core.specs.declared.found.Found.{Found}
use Rattle.npf_core.specs.declared.held.Held.{Held}
use Rattle.npf_core.specs.declared.reply.Reply.TheVariants.{ToLook, ToHold}
use Rattle.npf_core.specs.History.{by}
use Rattle.npf_connections.specs.Pass.{Pass}

-- a pass that was joined into this one looked the key up for that packet, and did nothing else
pub record TookInLook {S A R : Type 0} (pass : Pass (Entry S A R)) (n : ℕ) (key : Key) : Type 0 where
  pub number : ℕ
  pub found : Option Found
  pub joined : Contains pass.joined number
  pub looked : by number pass.history ≡ record { seat = number; act = Look n key; reply = ToLook found } ∷ []

-- the history has a hold of the key that was answered so
pub record HasHold {S A R : Type 0} (history : List (Entry S A R)) (key : Key) (id : ConnId) (held : Held) : Type 0 where
  pub seat : ℕ
  pub stands : Contains history (record { seat = seat; act = Hold id key Forward; reply = ToHold held })
