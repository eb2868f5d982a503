-- What an act is answered.
-- READ 9 of docs/READING.md
use Rattle.std.specs.Prelude.{ℕ, ◌+◌, Option, Some, None}
use Rattle.npf_types.specs.declared.key.Way.{Way}
use Rattle.npf_core.specs.declared.act.Act.{Act}
use Rattle.npf_core.specs.declared.act.Act.TheVariants.{Claim, Look, Hold, Start, Step, Kill, Unhold, Free}
use Rattle.npf_core.specs.declared.conn_id.ConnId.{ConnId}
use Rattle.npf_core.specs.declared.found.Found.{Found}
use Rattle.npf_core.specs.declared.held.Held.{Held}
use Rattle.npf_core.specs.declared.reply.Reply.{Reply}
use Rattle.npf_core.specs.declared.reply.Reply.TheVariants.{Nothing, ToClaim, ToLook, ToHold, ToStep}
use Rattle.npf_core.specs.declared.stage.Stage.{Stage}
use Rattle.npf_core.specs.declared.stage.Stage.TheVariants.{Live}
use Rattle.npf_core.specs.declared.stepped.Stepped.{Stepped}
use Rattle.npf_core.specs.Machine.{Machine, stage_of}
use Rattle.npf_core.specs.Meaning.{Meaning}

-- the identity that a claim of the slot gives: the last incarnation plus one
abbrev pub claimed_id : {S : Type 0} → Machine S → ℕ → ConnId
claimed_id k slot = record { slot = slot; inc = (k.slot slot).inc + 1 }

-- a key that has no holder is given, one that has is Taken
abbrev pub held_by : Option Found → Held
held_by None = Held.Done
held_by (Some found) = Held.Taken found

-- a Live connection answers by the law, and tells how many steps it had
abbrev pub step_answer : {S A R : Type 0} → Meaning S A R → Way → A → Stage S → Stepped R
step_answer m way arg (Live flow steps) = Stepped.Done (m.answer flow way arg) steps
step_answer m way arg _ = Stepped.NotLive

-- the reply to an act, one case each
abbrev pub reply_of : {S A R : Type 0} → Meaning S A R → Machine S → Act S A → Reply R
reply_of m k (Claim packet slot) = ToClaim (claimed_id k slot)
reply_of m k (Look packet key) = ToLook (k.holder key)
reply_of m k (Hold id key way) = ToHold (held_by (k.holder key))
reply_of m k (Start id packet init) = Nothing
reply_of m k (Step packet id way arg) = ToStep (step_answer m way arg (stage_of k id))
reply_of m k (Kill id why) = Nothing
reply_of m k (Unhold id way) = Nothing
reply_of m k (Free id) = Nothing
