-- How a connection that holds its other keys takes the backward one and is started.
use Rattle.std.specs.Prelude.{◌≡◌, ◌≢◌, List, [], ◌∷◌, ◌++◌}
use Rattle.npf_types.specs.declared.change.Change.{Change}
use Rattle.npf_types.specs.declared.key.Key.{Key}
use Rattle.npf_types.specs.declared.key.Way.TheVariants.{Backward}
use Rattle.npf_core.specs.declared.conn_id.ConnId.{ConnId}
use Rattle.npf_core.specs.declared.found.Found.{Found}
use Rattle.npf_core.specs.declared.held.Held.{Held}
use Rattle.npf_flow.specs.declared.flow.Flow.{Flow}
use Rattle.npf_flow.specs.Flows.{opening_flow}
use Rattle.npf_key.specs.Key.{key_of, backward_key}
use Rattle.npf_engine_opening.specs.declared.attempt.Attempt.{Attempt}
use Rattle.npf_engine_opening.specs.declared.attempt.Opened.{Opened}
use Rattle.npf_engine_opening.specs.declared.attempt.Refusal.TheVariants as Refusals
use Rattle.npf_engine_opening.specs.declared.start.Changes.{Changes}
use Rattle.npf_engine_opening.specs.Saying.{FlowSaid, said_by_hold, start_said, abandon_said}
use Rattle.npf_engine_opening.specs.Ways.{ways_before}

-- the key of the packet, and that of the answers to it once it is translated
abbrev pub packet_key : Attempt → Key
packet_key attempt = key_of attempt.facts attempt.ifid

abbrev pub answer_key : Attempt → Change → Key
answer_key attempt there = backward_key attempt.facts attempt.ifid there

-- the flow that the packet opens
abbrev pub flow_of : Attempt → Changes → Flow
flow_of attempt changes = opening_flow attempt.arg attempt.settings attempt.packet changes.there changes.back attempt.action

-- the backward key is held, unless it is the forward one
pub data HoldsBackward (attempt : Attempt) (id : ConnId) (there : Change) : List FlowSaid → Held → Type 0 where
  one_key : answer_key attempt there ≡ packet_key attempt → HoldsBackward attempt id there [] Held.Done
  two_keys : (held : Held) → answer_key attempt there ≢ packet_key attempt →
      HoldsBackward attempt id there (said_by_hold id (answer_key attempt there) Backward held) held

-- then the connection is started; it is abandoned where the key has a holder or there is no node for it
pub data StartsConnection (attempt : Attempt) (id : ConnId) (changes : Changes) : List FlowSaid → Opened → Type 0 where
  started : (said : List FlowSaid) → HoldsBackward attempt id changes.there said Held.Done →
      StartsConnection attempt id changes (said ++ start_said id attempt.packet (flow_of attempt changes) ∷ []) (Opened.Open id changes.there)
  taken : (said : List FlowSaid) (holder : Found) → HoldsBackward attempt id changes.there said (Held.Taken holder) →
      StartsConnection attempt id changes (said ++ abandon_said id (ways_before attempt.plan)) (Opened.Refused (Refusals.Taken holder))
  no_node : (said : List FlowSaid) → HoldsBackward attempt id changes.there said Held.NoNode →
      StartsConnection attempt id changes (said ++ abandon_said id (ways_before attempt.plan)) (Opened.Refused Refusals.NoNode)
