-- How a packet opens a connection (npf.conf(5), "Stateful" and "Map"): what is asked of a table of connections, and what becomes of it.
use Rattle.std.specs.Prelude.{◌≡◌, ℕ, Ok, Err, List, [], ◌∷◌, ◌++◌}
use Rattle.npf_types.specs.declared.address.Addr.{Addr}
use Rattle.npf_types.specs.declared.change.Change.{Change}
use Rattle.npf_types.specs.declared.facts.Facts.{Facts}
use Rattle.npf_types.specs.declared.key.Way.TheVariants.{Forward}
use Rattle.npf_core.specs.declared.conn_id.ConnId.{ConnId}
use Rattle.npf_core.specs.declared.found.Found.{Found}
use Rattle.npf_core.specs.declared.held.Held.{Held}
use Rattle.npf_core.specs.declared.stepped.Stepped.{Stepped}
use Rattle.npf_flow.specs.declared.step.FlowReply.{FlowReply}
use Rattle.npf_nat.specs.Answer.{answer_change}
use Rattle.npf_nat.specs.MapPlan.{drawn_change}
use Rattle.npf_nat.specs.declared.map_plan.MapPlan.TheVariants.{Fixed, Draw}
use Rattle.npf_portmap.specs.Candidate.{candidates}
use Rattle.npf_engine_opening.specs.declared.attempt.Attempt.{Attempt}
use Rattle.npf_engine_opening.specs.declared.attempt.Opened.{Opened}
use Rattle.npf_engine_opening.specs.declared.attempt.Refusal.{Refusal}
use Rattle.npf_engine_opening.specs.declared.attempt.Refusal.TheVariants as Refusals
use Rattle.npf_engine_opening.specs.declared.start.Changes.{Changes}
use Rattle.npf_engine_opening.specs.Draw.{Draws}
use Rattle.npf_engine_opening.specs.Saying.{FlowSaid, claim_said, hold_said, step_said, abandon_said}
use Rattle.npf_engine_opening.specs.Start.{StartsConnection, packet_key}

-- the changes by a drawn port
abbrev pub drawn_changes : Facts → Addr → ℕ → Changes
drawn_changes facts addr port = record { there = drawn_change addr port; back = answer_change facts (drawn_change addr port) }

-- the forward key is held: the plan's changes are taken, or those by the port that is drawn. Without a port the connection is abandoned
pub data Translates (attempt : Attempt) (id : ConnId) : List FlowSaid → Opened → Type 0 where
  fixed : (there back : Change) (said : List FlowSaid) (opened : Opened) → attempt.plan ≡ Fixed there back →
      StartsConnection attempt id (record { there = there; back = back }) said opened → Translates attempt id said opened
  drawn : (addr : Addr) (min max first port : ℕ) (draws starts : List FlowSaid) (opened : Opened) → attempt.plan ≡ Draw addr min max first →
      Draws id addr (candidates min max first) draws (Ok port) →
      StartsConnection attempt id (drawn_changes attempt.facts addr port) starts opened → Translates attempt id (draws ++ starts) opened
  undrawn : (addr : Addr) (min max first : ℕ) (why : Refusal) (draws : List FlowSaid) → attempt.plan ≡ Draw addr min max first →
      Draws id addr (candidates min max first) draws (Err why) →
      Translates attempt id (draws ++ abandon_said id (Forward ∷ [])) (Opened.Refused why)

-- a connection is claimed: the forward key is held and the rest goes on. Where it has a holder, the connection is abandoned and the
-- holder stepped by the packet
pub data Builds (attempt : Attempt) (id : ConnId) : List FlowSaid → Opened → Type 0 where
  held : (said : List FlowSaid) (opened : Opened) → Translates attempt id said opened →
      Builds attempt id (hold_said id (packet_key attempt) Forward Held.Done ∷ said) opened
  known : (holder : Found) (answer : Stepped FlowReply) →
      Builds attempt id
      (hold_said id (packet_key attempt) Forward (Held.Taken holder) ∷
      abandon_said id [] ++ step_said attempt.packet holder attempt.arg answer ∷ [])
      (Opened.Known holder answer)
  no_node : Builds attempt id (abandon_said id []) (Opened.Refused Refusals.NoNode)

-- the packet opens a connection, is a step of the one that holds its key, or opens none for a cause that was shown; nothing is said
-- where the table is full
pub data OpensConnection (attempt : Attempt) : List FlowSaid → Opened → Type 0 where
  full : OpensConnection attempt [] (Opened.Refused Refusals.Full)
  begun : (id : ConnId) (said : List FlowSaid) (opened : Opened) → Builds attempt id said opened →
      OpensConnection attempt (claim_said attempt.packet id ∷ said) opened
