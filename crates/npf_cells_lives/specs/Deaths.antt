-- The part of the rule on deaths: a dead connection is its killer's, until its first note has an epoch that the table had when it held no key any more; whoever rests on it is protected from that
-- epoch on or from an earlier one. Once nobody rests on it, a pass may reclaim it, and it is that pass's until it is freed.
use Rattle.std.specs.Prelude.{◌≡◌, ◌⊎◌, ℕ, ◌+◌, ◌^◌, ◌<◌, ◌≤◌, ◌==◌, nat_lt, true, false, Option, Some, None, List, Contains, filter, map, sum_by, slice_index, if◌then◌else◌}
use mathlib.Core.Option.{some}
use lib.ListN.{get_elem?}
use Rattle.npf_types.specs.declared.key.Way.{Way}
use Rattle.npf_core.specs.declared.conn_id.ConnId.{ConnId}
use Rattle.npf_core.specs.declared.slot.Slot.{Slot}
use Rattle.npf_core.specs.declared.stage.Stage.{Stage}
use Rattle.npf_core.specs.declared.stage.Stage.TheVariants.{Vacant, Building, Live, Dead}
use Rattle.npf_core.specs.Machine.{Machine, stage_of, HoldsNone}
use Rattle.npf_cells_words.specs.declared.layout.Layout.{Layout}
use Rattle.npf_cells_words.specs.declared.layout.Pool.TheVariants.{Slots}
use Rattle.npf_cells_words.specs.Layout.{epoch_word, field_at, notes_field}
use Rattle.npf_seats.specs.Sums.{occurs}

-- a seat as this part sees it: what it killed and hasn't let go, what it reclaimed, and what of that it cleared the first note of, the greatest epoch with which it let a connection go, the epoch that it loaded since it last killed anything or gave a
-- key up (0 where it loaded none), the epoch that it is protected with, and the connections that it may speak of: those that it was answered, and that of the leaf that it loaded last
pub record DeathSide : Type 0 where
  pub kills : List ConnId
  pub reclaims : List ConnId
  pub cleared : List ConnId
  pub dated : ℕ
  pub loaded : ℕ
  pub protecting : Option ℕ
  pub answered : List ConnId
  pub leaf : Option ConnId

-- the seat may still speak of the connection
abbrev pub Rests : DeathSide → ConnId → Type 0
Rests side id = Contains side.answered id ⊎ (side.leaf ≡ Some id)

-- it is protected with this epoch or an earlier one
abbrev pub IsProtectedBy : ℕ → Option ℕ → Type 0
IsProtectedBy epoch None = ⊥
IsProtectedBy epoch (Some protecting) = protecting ≤ epoch

-- the connection holds no key
abbrev pub IsKeyless : {S : Type 0} → Machine S → ConnId → Type 0
IsKeyless k id = (way : Way) → HoldsNone k id way

-- 1 where the connection is Dead
abbrev pub is_dead : {S : Type 0} → Stage S → ℕ
is_dead Vacant = 0
is_dead (Building seat) = 0
is_dead (Live flow steps) = 0
is_dead Dead = 1

-- the first note of a slot, which has an epoch where its top bit is set
abbrev pub first_note : Layout → List ℕ → ℕ → ℕ
first_note layout words slot = slice_index words (field_at layout Slots slot notes_field)

abbrev pub has_epoch : ℕ → ℕ
has_epoch note = if nat_lt note (2 ^ 63) then 0 else 1

-- how often the slot stands among those whose connections passes killed and haven't let go
abbrev pub slots_named : List ConnId → List ℕ
slots_named ids = map (λ (id : ConnId). id.slot) ids

abbrev pub killed_in : {V : Type 0} → (V → DeathSide) → List V → ℕ → ℕ
killed_in side_of views slot = sum_by (λ v. occurs slot (slots_named (side_of v).kills)) views

-- and among those that passes reclaimed, whose first note has its epoch, and of which they cleared it
abbrev pub reclaimed_in : {V : Type 0} → (V → DeathSide) → List V → ℕ → ℕ
reclaimed_in side_of views slot = sum_by (λ v. occurs slot (slots_named (side_of v).reclaims)) views

abbrev pub cleared_in : {V : Type 0} → (V → DeathSide) → List V → ℕ → ℕ
cleared_in side_of views slot = sum_by (λ v. occurs slot (slots_named (side_of v).cleared)) views

-- connections without those of a slot
abbrev pub ids_elsewhere : ℕ → List ConnId → List ConnId
ids_elsewhere slot = filter (λ (id : ConnId). if id.slot == slot then false else true)

-- a slot as turns see it: one whose connection was reclaimed is as good as free
abbrev pub freed_slot : {S : Type 0} → Slot S → Slot S
freed_slot x = record x { stage = Vacant }

abbrev pub slot_by : {S : Type 0} → ℕ → Slot S → Slot S
slot_by reclaimed x = if reclaimed == 0 then x else freed_slot x

abbrev pub unreclaimed : {S V : Type 0} → (V → DeathSide) → List V → Machine S → Machine S
unreclaimed side_of views k = record k { slot = λ slot. slot_by (reclaimed_in side_of views slot + cleared_in side_of views slot) (k.slot slot) }

-- the last connection of a slot
abbrev pub last_id : {S : Type 0} → Machine S → ℕ → ConnId
last_id k slot = record { slot = slot; inc = (k.slot slot).inc }

-- the table has reached the epoch, and whoever rests on the connection is protected with it or an earlier one
pub record IsPast {V : Type 0} (side_of : V → DeathSide) (now : ℕ) (views : List V) (id : ConnId) (epoch : ℕ) : Type 0 where
  pub reached : epoch ≤ now
  pub rested : (j : ℕ) (v : V) → get_elem? views j ≡ some v → Rests (side_of v) id → IsProtectedBy epoch (side_of v).protecting

-- what the part says of a connection that a pass killed, which loaded this epoch since
pub record FitsKill {S V : Type 0} (side_of : V → DeathSide) (k : Machine S) (now : ℕ) (views : List V) (loaded : ℕ) (id : ConnId) : Type 0 where
  pub dead : stage_of k id ≡ Dead
  pub past : 1 ≤ loaded → IsKeyless k id → IsPast side_of now views id loaded

-- what it says of one whose slot's first note has this epoch
pub record IsLeft {S V : Type 0} (side_of : V → DeathSide) (k : Machine S) (now : ℕ) (views : List V) (slot epoch : ℕ) : Type 0 where
  pub keyless : IsKeyless k (last_id k slot)
  pub past : IsPast side_of now views (last_id k slot) epoch

-- some seat let a connection go with this epoch or a later one
pub record IsDated {V : Type 0} (side_of : V → DeathSide) (views : List V) (epoch : ℕ) : Type 0 where
  pub seat : ℕ
  pub view : V
  pub there : get_elem? views seat ≡ some view
  pub since : epoch ≤ (side_of view).dated

-- what it says of one that a pass reclaimed: nobody may speak of it
pub record FitsReclaim {S V : Type 0} (side_of : V → DeathSide) (k : Machine S) (views : List V) (id : ConnId) : Type 0 where
  pub dead : stage_of k id ≡ Dead
  pub keyless : IsKeyless k id
  pub unrested : (j : ℕ) (v : V) → get_elem? views j ≡ some v → ¬ (Rests (side_of v) id)

-- over views of which each has a side: a connection is Dead where one pass killed it and hasn't let it go, or the first note has an epoch, or one pass reclaimed it and cleared that note; and one
-- pass at most reclaimed it while the note has its epoch. No seat let a connection go with an epoch that the table hasn't reached
pub record Deaths {S V : Type 0} (side_of : V → DeathSide) (layout : Layout) (k : Machine S) (words : List ℕ) (views : List V) : Type 0 where
  pub counted : (slot : ℕ) → slot < layout.slots → killed_in side_of views slot + has_epoch (first_note layout words slot) + cleared_in side_of views slot ≡ is_dead (k.slot slot).stage
  pub reclaimed : (slot : ℕ) → slot < layout.slots → reclaimed_in side_of views slot ≤ has_epoch (first_note layout words slot)
  pub kills : (j : ℕ) (v : V) (id : ConnId) → get_elem? views j ≡ some v → Contains (side_of v).kills id → FitsKill side_of k (epoch_word words) views (side_of v).loaded id
  pub reclaims : (j : ℕ) (v : V) (id : ConnId) → get_elem? views j ≡ some v → Contains (side_of v).reclaims id ⊎ Contains (side_of v).cleared id → FitsReclaim side_of k views id
  pub left : (slot epoch : ℕ) → slot < layout.slots → first_note layout words slot ≡ 2 ^ 63 + epoch → IsLeft side_of k (epoch_word words) views slot epoch
  pub dated : (slot epoch : ℕ) → slot < layout.slots → first_note layout words slot ≡ 2 ^ 63 + epoch → IsDated side_of views epoch
  pub dates : (j : ℕ) (v : V) → get_elem? views j ≡ some v → (side_of v).dated ≤ epoch_word words
