-- What a copy of a slot's connection says: its identity, its keys and its flow.
use Rattle.std.specs.Prelude.{◌≡◌, ℕ, Option, Some, None}
use Rattle.npf_types.specs.declared.key.Key.{Key}
use Rattle.npf_types.specs.declared.key.Way.{Way}
use Rattle.npf_types.specs.declared.key.Way.TheVariants.{Forward, Backward, Port}
use Rattle.npf_core.specs.declared.conn_id.ConnId.{ConnId}
use Rattle.npf_core.specs.declared.kept.Kept.{Kept}
use Rattle.npf_core.specs.declared.stage.Stage.TheVariants.{Live}
use Rattle.npf_core.specs.Machine.{Machine, stage_of, IsLive, Holds, HoldsNone}

-- the connection holds this key of that way, or none where there is none
abbrev pub HoldsIf : {S : Type 0} → Machine S → ConnId → Way → Option Key → Type 0
HoldsIf k id way None = HoldsNone k id way
HoldsIf k id way (Some key) = Holds k id way key

-- the slot's connection is this one, Live with this flow after some steps, and holds these keys and no others
pub record IsKept {S : Type 0} (k : Machine S) (slot : ℕ) (kept : Kept S) : Type 0 where
  pub there : kept.id.slot ≡ slot
  pub live : (steps : ℕ) × (stage_of k kept.id ≡ Live kept.state steps)
  pub forward : HoldsIf k kept.id Forward kept.forward
  pub port : HoldsIf k kept.id Port kept.port
  pub backward : HoldsIf k kept.id Backward kept.backward

-- a copy is one of the slot's connection, and there is none exactly where none is Live in the slot
abbrev pub Copies : {S : Type 0} → Machine S → ℕ → Option (Kept S) → Type 0
Copies k slot None = ¬ IsLive (k.slot slot).stage
Copies k slot (Some kept) = IsKept k slot kept
