-- Where an act is allowed.
use Rattle.std.specs.Prelude.{◌≡◌, ℕ, ◌<◌, ◌-◌, ◌^◌, IsTrue}
use Rattle.npf_types.specs.declared.key.Way.{Way}
use Rattle.npf_core.specs.declared.act.Act.{Act}
use Rattle.npf_core.specs.declared.act.Act.TheVariants.{Claim, Look, Hold, Start, Step, Kill, Unhold, Free}
use Rattle.npf_core.specs.declared.act.Why.TheVariants.{Abandoned, Expired}
use Rattle.npf_core.specs.declared.conn_id.ConnId.{ConnId}
use Rattle.npf_core.specs.declared.stage.Stage.{Stage}
use Rattle.npf_core.specs.declared.stage.Stage.TheVariants.{Vacant, Building, Live, Dead}
use Rattle.npf_core.specs.Machine.{Machine, stage_of, IsClaimed, HoldsNone, HoldsSome}
use Rattle.npf_core.specs.Meaning.{Meaning}

-- the slot exists and isn't claimed
pub record MayClaim {S : Type 0} (slots : ℕ) (k : Machine S) (slot : ℕ) : Type 0 where
  pub exists : slot < slots
  pub unclaimed : (k.slot slot).stage ≡ Vacant

-- the connection is Building under the seat and holds no key of that way
pub record MayHold {S : Type 0} (k : Machine S) (seat : ℕ) (id : ConnId) (way : Way) : Type 0 where
  pub built : stage_of k id ≡ Building seat
  pub none : HoldsNone k id way

-- the connection is Live and due at that time
abbrev pub IsDue : {S A R : Type 0} → Meaning S A R → ℕ → Stage S → Type 0
IsDue m now Vacant = ⊥
IsDue m now (Building _) = ⊥
IsDue m now (Live flow _) = IsTrue (m.is_due flow now)
IsDue m now Dead = ⊥

-- the connection is Dead and holds a key of that way
pub record MayUnhold {S : Type 0} (k : Machine S) (id : ConnId) (way : Way) : Type 0 where
  pub killed : stage_of k id ≡ Dead
  pub held : HoldsSome k id way

-- the connection is Dead, holds no key, and isn't the last incarnation that there can be
pub record MayFree {S : Type 0} (k : Machine S) (id : ConnId) : Type 0 where
  pub killed : stage_of k id ≡ Dead
  pub none : (way : Way) → HoldsNone k id way
  pub further : id.inc < 2 ^ 64 - 1

-- the act is allowed under the seat, one case each and no other
abbrev pub Allows : {S A R : Type 0} → Meaning S A R → ℕ → Machine S → ℕ → Act S A → Type 0
Allows m slots k seat (Claim packet slot) = MayClaim slots k slot
Allows m slots k seat (Look packet key) = Unit {0}
Allows m slots k seat (Hold id key way) = MayHold k seat id way
Allows m slots k seat (Start id packet init) = stage_of k id ≡ Building seat
Allows m slots k seat (Step packet id way arg) = IsClaimed (stage_of k id)
Allows m slots k seat (Kill id Abandoned) = stage_of k id ≡ Building seat
Allows m slots k seat (Kill id (Expired now)) = IsDue m now (stage_of k id)
Allows m slots k seat (Unhold id way) = MayUnhold k id way
Allows m slots k seat (Free id) = MayFree k id
