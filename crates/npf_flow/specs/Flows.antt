-- How a connection's flow goes on (npf.conf(5), "Stateful"): one of TCP by the law of segments, and one of another protocol with
-- every packet, as NetBSD's npf follows UDP and ICMP.
use Rattle.std.specs.Prelude.{ℕ, max, Bool, true, false, not, ◌&&◌, ◌||◌, Option, Some, None, if◌then◌else◌}
use Rattle.npf_types.specs.declared.action.Action.{Action}
use Rattle.npf_types.specs.declared.change.Change.{Change}
use Rattle.npf_types.specs.declared.facts.Segment.{Segment}
use Rattle.npf_types.specs.declared.key.Way.{Way}
use Rattle.npf_types.specs.declared.key.Way.TheVariants.{Forward, Backward, Port}
use Rattle.npf_core.specs.Meaning.{Meaning}
use Rattle.npf_tcp.specs.Laws.{next_state, is_accepted}
use Rattle.npf_tcp.specs.Opening.{opening_state}
use Rattle.npf_flow.specs.declared.flow.Flow.{Flow}
use Rattle.npf_flow.specs.declared.flow.FlowKind.{FlowKind}
use Rattle.npf_flow.specs.declared.flow.FlowKind.TheVariants.{Tcp, Other}
use Rattle.npf_flow.specs.declared.flow.FlowSettings.{FlowSettings}
use Rattle.npf_flow.specs.declared.step.FlowArg.{FlowArg}
use Rattle.npf_flow.specs.declared.step.FlowReply.{FlowReply}
use Rattle.npf_flow.specs.Timeout.{is_due}

-- what a packet opens: a connection of TCP by its segment, strict about resets or not, and otherwise one that nobody has answered
abbrev pub opening_kind : Bool → Option Segment → FlowKind
opening_kind strict (Some seg) = Tcp (opening_state seg strict)
opening_kind strict None = Other false

-- the flow that a packet opens under these settings, at the packet's time
abbrev pub opening_flow : FlowArg → FlowSettings → ℕ → Change → Change → Action → Flow
opening_flow arg settings opener there back action = record {
  kind = opening_kind settings.strict arg.seg;
  last = arg.now;
  opener = opener;
  there = there;
  back = back;
  action = action;
  timeouts = settings.timeouts;
}

-- a packet of this way goes back; the way of a port counts as forward
abbrev pub is_backward : Way → Bool
is_backward Forward = false
is_backward Backward = true
is_backward Port = false

-- the packet is accepted: a flow of TCP goes by the law of segments, and refuses what has none; another accepts every packet
abbrev pub accepts : FlowKind → Way → Option Segment → Bool
accepts (Tcp state) way (Some seg) = is_accepted state way seg
accepts (Tcp state) way None = false
accepts (Other answered) way seg = true

-- the kind after a packet: the next state of TCP, and otherwise one that a backward packet has answered
abbrev pub kind_after : FlowKind → Way → Option Segment → FlowKind
kind_after (Tcp state) way (Some seg) = Tcp (next_state state way seg)
kind_after (Tcp state) way None = Tcp state
kind_after (Other answered) way seg = Other (answered || is_backward way)

-- a packet moves the flow on where it is accepted and doesn't only peek
abbrev pub moves_on : FlowKind → Way → FlowArg → Bool
moves_on kind way arg = not arg.peek && accepts kind way arg.seg

-- the flow after a packet: one that moves it on sets the last time to the greater of both, and another changes nothing
abbrev pub next_flow : Flow → Way → FlowArg → Flow
next_flow flow way arg =
    if moves_on flow.kind way arg
    then record flow { kind = kind_after flow.kind way arg.seg; last = max flow.last arg.now }
    else flow

-- what translates a packet of this way
abbrev pub change_of : Flow → Way → Change
change_of flow Forward = flow.there
change_of flow Backward = flow.back
change_of flow Port = flow.there

-- what a packet is answered: whether it passes, who opened the flow, how the packet is translated, and what its rule does to it.
-- One that only peeks always passes.
abbrev pub flow_reply : Flow → Way → FlowArg → FlowReply
flow_reply flow way arg = record {
  pass = arg.peek || accepts flow.kind way arg.seg;
  opener = flow.opener;
  change = change_of flow way;
  action = flow.action;
}

abbrev pub flow_law : Meaning Flow FlowArg FlowReply
flow_law = record { next = next_flow; answer = flow_reply; is_due = is_due }
