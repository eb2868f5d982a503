-- Histories of connections whose flows go by the flow law, and which of their entries are a packet's.
use Rattle.std.specs.Prelude.{ℕ, Bool, true, false, ◌==◌, ◌||◌, if◌then◌else◌, not, List, [], ◌∷◌, filter}
use Rattle.npf_core.specs.declared.act.Act.{Act}
use Rattle.npf_core.specs.declared.act.Act.TheVariants.{Claim, Look, Hold, Start, Step, Kill, Unhold, Free}
use Rattle.npf_core.specs.declared.act.Why.TheVariants.{Abandoned, Expired}
use Rattle.npf_core.specs.declared.conn_id.ConnId.{ConnId}
use Rattle.npf_core.specs.declared.entry.Entry.{Entry}
use Rattle.npf_core.specs.declared.reply.Reply.{Reply}
use Rattle.npf_core.specs.declared.reply.Reply.TheVariants.{ToClaim}
use Rattle.npf_core.specs.NextState.{is_id}
use Rattle.npf_engine_opening.specs.Saying.{FlowSaid}
use Rattle.npf_flow.specs.declared.flow.Flow.{Flow}
use Rattle.npf_flow.specs.declared.step.FlowArg.{FlowArg}
use Rattle.npf_flow.specs.declared.step.FlowReply.{FlowReply}

abbrev pub FlowAct : Type 0
FlowAct = Act Flow FlowArg

abbrev pub FlowEntry : Type 0
FlowEntry = Entry Flow FlowArg FlowReply

abbrev pub History : Type 0
History = List FlowEntry

-- the act carries the number of this packet
abbrev pub carries : ℕ → FlowAct → Bool
carries n (Claim packet slot) = packet == n
carries n (Look packet key) = packet == n
carries n (Start id packet init) = packet == n
carries n (Step packet id way arg) = packet == n
carries n (Hold id key way) = false
carries n (Kill id why) = false
carries n (Unhold id way) = false
carries n (Free id) = false

-- the identity is among these
abbrev pub is_one_of_ids : List ConnId → ConnId → Bool
is_one_of_ids [] id = false
is_one_of_ids (other ∷ ids) id = is_id other id || is_one_of_ids ids id

-- the act holds a key for one of these identities, or abandons one of them
abbrev pub builds : List ConnId → FlowAct → Bool
builds ids (Hold id key way) = is_one_of_ids ids id
builds ids (Kill id Abandoned) = is_one_of_ids ids id
builds ids (Kill id (Expired now)) = false
builds ids (Claim packet slot) = false
builds ids (Look packet key) = false
builds ids (Start id packet init) = false
builds ids (Step packet id way arg) = false
builds ids (Unhold id way) = false
builds ids (Free id) = false

-- the identities, and where this reply is to a claim the one that was claimed
abbrev pub with_claimed : Reply FlowReply → List ConnId → List ConnId
with_claimed (ToClaim id) ids = id ∷ ids
with_claimed _ ids = ids

-- The entries of a packet among those of a history from a place on: those that carry its number, and the holds and abandonments
-- of the identities that it has claimed, of which these are known at that place.
abbrev pub entries_after : ℕ → List ConnId → History → History
entries_after n ids [] = []
entries_after n ids (entry ∷ entries) =
    if carries n entry.act then entry ∷ entries_after n (with_claimed entry.reply ids) entries
    else (if builds ids entry.act then entry ∷ entries_after n ids entries else entries_after n ids entries)

-- the entries of a packet in a history
abbrev pub entries_of : ℕ → History → History
entries_of n history = entries_after n [] history

-- the act gives a key back
abbrev pub is_unhold : FlowAct → Bool
is_unhold (Unhold id way) = true
is_unhold (Claim packet slot) = false
is_unhold (Look packet key) = false
is_unhold (Hold id key way) = false
is_unhold (Start id packet init) = false
is_unhold (Step packet id way arg) = false
is_unhold (Kill id why) = false
is_unhold (Free id) = false

-- what is told of what was said: all but that keys were given back, which follows from a connection's end
abbrev pub told : List FlowSaid → List FlowSaid
told = filter (λ said. not (is_unhold said.act))
