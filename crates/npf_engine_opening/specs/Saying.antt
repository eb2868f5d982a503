-- What a pass says as it opens a connection: an act, and what it was answered.
use Rattle.std.specs.Prelude.{ℕ, List, [], ◌∷◌}
use Rattle.npf_types.specs.declared.key.Key.{Key}
use Rattle.npf_types.specs.declared.key.Way.{Way}
use Rattle.npf_core.specs.declared.act.Act.TheVariants.{Claim, Hold, Start, Step}
use Rattle.npf_core.specs.declared.act.Why.TheVariants.{Abandoned}
use Rattle.npf_core.specs.declared.conn_id.ConnId.{ConnId}
use Rattle.npf_core.specs.declared.found.Found.{Found}
use Rattle.npf_core.specs.declared.held.Held.{Held}
use Rattle.npf_core.specs.declared.reply.Reply.TheVariants.{Nothing, ToClaim, ToHold, ToStep}
use Rattle.npf_core.specs.declared.stepped.Stepped.{Stepped}
use Rattle.npf_connections.specs.Said.{Said, ends_said}
use Rattle.npf_flow.specs.declared.flow.Flow.{Flow}
use Rattle.npf_flow.specs.declared.step.FlowArg.{FlowArg}
use Rattle.npf_flow.specs.declared.step.FlowReply.{FlowReply}
use Rattle.npf_engine_opening.specs.Ways.{is_one_of}

-- over a table of flows
abbrev pub FlowSaid : Type 0
FlowSaid = Said Flow FlowArg FlowReply

-- a connection is claimed for a packet
abbrev pub claim_said : ℕ → ConnId → FlowSaid
claim_said packet id = record { act = Claim packet id.slot; reply = ToClaim id }

-- a key is asked for, and the answer is this
abbrev pub hold_said : ConnId → Key → Way → Held → FlowSaid
hold_said id key way held = record { act = Hold id key way; reply = ToHold held }

-- so a hold says, and nothing where there is no node for the key
abbrev pub said_by_hold : ConnId → Key → Way → Held → List FlowSaid
said_by_hold id key way Held.Done = hold_said id key way Held.Done ∷ []
said_by_hold id key way (Held.Taken holder) = hold_said id key way (Held.Taken holder) ∷ []
said_by_hold id key way Held.NoNode = []

-- a connection is started by a packet
abbrev pub start_said : ConnId → ℕ → Flow → FlowSaid
start_said id packet flow = record { act = Start id packet flow; reply = Nothing }

-- a holder is stepped by a packet, which goes its way
abbrev pub step_said : ℕ → Found → FlowArg → Stepped FlowReply → FlowSaid
step_said packet holder arg stepped = record { act = Step packet holder.id holder.way arg; reply = ToStep stepped }

-- a connection that holds keys of these ways is abandoned
abbrev pub abandon_said : ConnId → List Way → List FlowSaid
abandon_said id ways = ends_said id Abandoned (is_one_of ways)
