-- What a machine does that is asked for an act: where the act is allowed it answers and goes on, and else nothing changes.
use Rattle.std.specs.Prelude.{◌≡◌, ℕ, Option, Some, None}
use Rattle.npf_types.specs.declared.key.Key.{Key}
use Rattle.npf_types.specs.declared.key.Way.{Way}
use Rattle.npf_core.specs.declared.act.Act.{Act}
use Rattle.npf_core.specs.declared.act.Act.TheVariants.{Claim, Look, Hold, Start, Step, Kill, Unhold, Free}
use Rattle.npf_core.specs.declared.conn_id.ConnId.{ConnId}
use Rattle.npf_core.specs.declared.plain_machine.PlainMachine.{PlainMachine}
use Rattle.npf_core.specs.declared.reply.Reply.{Reply}
use Rattle.npf_core.specs.Allowed.{Allows, MayHold}
use Rattle.npf_core.specs.Machine.{Machine}
use Rattle.npf_core.specs.Meaning.{Meaning}
use Rattle.npf_core.specs.NextState.{after_act}
use Rattle.npf_core.specs.PlainMachine.{state_in, slots_in}
use Rattle.npf_core.specs.Replies.{reply_of}

-- it was allowed, has the reply, and the machine went on to the next state
pub record IsPlayed {S A R : Type 0} (m : Meaning S A R) (slots : ℕ) (k : Machine S) (seat : ℕ) (act : Act S A) (reply : Reply R) (next : Machine S) : Type 0 where
  pub allowed : Allows m slots k seat act
  pub replied : reply ≡ reply_of m k act
  pub goes_on : next ≡ after_act m k seat act

-- it wasn't allowed, and the machine is as it was
pub record IsRefused {S A R : Type 0} (m : Meaning S A R) (slots : ℕ) (k : Machine S) (seat : ℕ) (act : Act S A) (next : Machine S) : Type 0 where
  pub refused : ¬ Allows m slots k seat act
  pub same : next ≡ k

-- one or the other
abbrev pub Plays : {S A R : Type 0} → Meaning S A R → ℕ → Machine S → ℕ → Act S A → Option (Reply R) → Machine S → Type 0
Plays m slots k seat act None next = IsRefused m slots k seat act next
Plays m slots k seat act (Some reply) next = IsPlayed m slots k seat act reply next

-- the same of a plain machine
abbrev pub PlaysOn : {S A R : Type 0} → Meaning S A R → PlainMachine S → ℕ → Act S A → Option (Reply R) → PlainMachine S → Type 0
PlaysOn m machine seat act reply next = Plays m (slots_in machine) (state_in machine) seat act reply (state_in next)

-- the Hold is allowed, and its key has no holder: it gives the key
pub record MayGive {S : Type 0} (k : Machine S) (seat : ℕ) (id : ConnId) (key : Key) (way : Way) : Type 0 where
  pub may : MayHold k seat id way
  pub unheld : k.holder key ≡ None

-- only a Hold that gives its key keeps something that wasn't there
abbrev pub WantsMemory : {S A : Type 0} → Machine S → ℕ → Act S A → Type 0
WantsMemory k seat (Claim packet slot) = ⊥
WantsMemory k seat (Look packet key) = ⊥
WantsMemory k seat (Hold id key way) = MayGive k seat id key way
WantsMemory k seat (Start id packet init) = ⊥
WantsMemory k seat (Step packet id way arg) = ⊥
WantsMemory k seat (Kill id why) = ⊥
WantsMemory k seat (Unhold id way) = ⊥
WantsMemory k seat (Free id) = ⊥
