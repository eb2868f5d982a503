-- The state that an act leaves, slot by slot and key by key. Each part goes by the act and by what it was itself.
-- READ 9 of docs/READING.md
use Rattle.std.specs.Prelude.{ℕ, ◌+◌, ◌-◌, ◌^◌, min, Bool, true, false, ◌==◌, ◌&&◌, if◌then◌else◌, Option, Some, None}
use Rattle.npf_types.specs.declared.key.Key.{Key}
use Rattle.npf_types.specs.declared.key.Way.{Way}
use Rattle.npf_types.specs.declared.key.Way.TheVariants.{Forward, Backward, Port}
use Rattle.npf_core.specs.declared.act.Act.{Act}
use Rattle.npf_core.specs.declared.act.Act.TheVariants.{Claim, Look, Hold, Start, Step, Kill, Unhold, Free}
use Rattle.npf_core.specs.declared.conn_id.ConnId.{ConnId}
use Rattle.npf_core.specs.declared.found.Found.{Found}
use Rattle.npf_core.specs.declared.slot.Slot.{Slot}
use Rattle.npf_core.specs.declared.stage.Stage.{Stage}
use Rattle.npf_core.specs.declared.stage.Stage.TheVariants.{Vacant, Building, Live, Dead}
use Rattle.npf_core.specs.Machine.{Machine, is_key}
use Rattle.npf_core.specs.Meaning.{Meaning}

-- two ways are one
abbrev pub is_way : Way → Way → Bool
is_way Forward Forward = true
is_way Backward Backward = true
is_way Port Port = true
is_way _ _ = false

-- two identities are one
abbrev pub is_id : ConnId → ConnId → Bool
is_id id other = (id.slot == other.slot) && (id.inc == other.inc)

-- two holders are one
abbrev pub is_found : Found → Found → Bool
is_found found other = is_id found.id other.id && is_way found.way other.way

-- the act changes this slot. A Look, a Hold and an Unhold change none
abbrev pub is_at : {S A : Type 0} → ℕ → Act S A → Bool
is_at s (Claim packet slot) = slot == s
is_at s (Look packet key) = false
is_at s (Hold id key way) = false
is_at s (Start id packet init) = id.slot == s
is_at s (Step packet id way arg) = id.slot == s
is_at s (Kill id why) = id.slot == s
is_at s (Unhold id way) = false
is_at s (Free id) = id.slot == s

-- a step takes a Live connection to the law's next flow and counts one more, up to the largest number of 64 bits
abbrev pub stepped : {S A R : Type 0} → Meaning S A R → Way → A → Stage S → Stage S
stepped m way arg Vacant = Vacant
stepped m way arg (Building seat) = Building seat
stepped m way arg (Live flow steps) = Live (m.next flow way arg) (min (steps + 1) (2 ^ 64 - 1))
stepped m way arg Dead = Dead

-- what the act makes of its slot: a claim begins the next incarnation, a start counts as one step
abbrev pub changed : {S A R : Type 0} → Meaning S A R → ℕ → Act S A → Slot S → Slot S
changed m seat (Claim packet slot) x = record { inc = x.inc + 1; stage = Building seat }
changed m seat (Look packet key) x = x
changed m seat (Hold id key way) x = x
changed m seat (Start id packet init) x = record x { stage = Live init 1 }
changed m seat (Step packet id way arg) x = record x { stage = stepped m way arg x.stage }
changed m seat (Kill id why) x = record x { stage = Dead }
changed m seat (Unhold id way) x = x
changed m seat (Free id) x = record x { stage = Vacant }

-- the slot of this number after the act
abbrev pub slot_after : {S A R : Type 0} → Meaning S A R → ℕ → Act S A → ℕ → Slot S → Slot S
slot_after m seat act s x = if is_at s act then changed m seat act x else x

-- a key without a holder goes to who asks for it, one with a holder stays
abbrev pub holder_or : Option Found → Found → Option Found
holder_or None found = Some found
holder_or (Some holder) found = Some holder

-- a key is given up by its holder alone
abbrev pub given_up : Option Found → Found → Option Found
given_up None found = None
given_up (Some holder) found = if is_found holder found then None else Some holder

-- a Hold gives a key, an Unhold takes one back, and no other act changes a holder
abbrev pub holder_after : {S A : Type 0} → Act S A → Key → Option Found → Option Found
holder_after (Hold id key way) other x = if is_key key other then holder_or x (record { id = id; way = way }) else x
holder_after (Unhold id way) other x = given_up x (record { id = id; way = way })
holder_after (Claim packet slot) other x = x
holder_after (Look packet key) other x = x
holder_after (Start id packet init) other x = x
holder_after (Step packet id way arg) other x = x
holder_after (Kill id why) other x = x
holder_after (Free id) other x = x

-- the machine after an act under a seat
abbrev pub after_act : {S A R : Type 0} → Meaning S A R → Machine S → ℕ → Act S A → Machine S
after_act m k seat act = record {
  slot = λ s. slot_after m seat act s (k.slot s);
  holder = λ key. holder_after act key (k.holder key);
}
