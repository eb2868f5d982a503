-- What follows of the law of flows.
use Rattle.std.specs.Prelude.{◌≡◌, ◌↔◌, ◌<◌, ◌≤◌, ◌+◌, ◌||◌, ℕ, Bool, true, false}
use Rattle.npf_types.specs.declared.action.Action.{Action}
use Rattle.npf_types.specs.declared.change.Change.{Change}
use Rattle.npf_types.specs.declared.key.Way.{Way}
use Rattle.npf_tcp.specs.declared.state.TcpState.{TcpState}
use Rattle.npf_tcp.specs.Laws.{BothSides, EachSide, IsQuietUnseen}
use Rattle.npf_timeouts.specs.Timeouts.{AreTimeouts}
use Rattle.npf_flow.specs.declared.flow.Flow.{Flow}
use Rattle.npf_flow.specs.declared.flow.FlowKind.{FlowKind}
use Rattle.npf_flow.specs.declared.flow.FlowKind.TheVariants.{Tcp, Other}
use Rattle.npf_flow.specs.declared.flow.FlowSettings.{FlowSettings}
use Rattle.npf_flow.specs.declared.step.FlowArg.{FlowArg}
use Rattle.npf_flow.specs.Flows.{next_flow, flow_reply, change_of, opening_flow, flow_law}
use Rattle.npf_flow.specs.Run.{Packets, flow_after, accepted, moving, has_backward, latest}
use Rattle.npf_flow.specs.Timeout.{timeout, is_due}

-- the flow's law accepts the packet
abbrev pub is_passed : Flow → Way → FlowArg → Bool
is_passed flow way arg = (flow_law.answer flow way arg).pass

-- a refused packet changes nothing
abbrev pub RefusedLeavesFlow : Type 0
RefusedLeavesFlow = (flow : Flow) (way : Way) (arg : FlowArg) → is_passed flow way arg ≡ false → next_flow flow way arg ≡ flow

-- a packet that only peeks leaves the flow as it is, and passes, with the change of its way
abbrev pub PeekLeavesFlow : Type 0
PeekLeavesFlow =
    (flow : Flow) (way : Way) (arg : FlowArg) → arg.peek ≡ true →
    (next_flow flow way arg ≡ flow)
    × (flow_reply flow way arg ≡ record { pass = true; opener = flow.opener; change = change_of flow way; action = flow.action })

-- no packet takes a flow's last time back
abbrev pub LastNeverFalls : Type 0
LastNeverFalls = (flow : Flow) (way : Way) (arg : FlowArg) → flow.last ≤ (next_flow flow way arg).last

-- what the opening of a flow made stays: who opened it, what translates its packets, what is done to them, and for how long it may
-- be idle
pub record KeepsOpening (old new : Flow) : Type 0 where
  pub opener : new.opener ≡ old.opener
  pub there : new.there ≡ old.there
  pub back : new.back ≡ old.back
  pub action : new.action ≡ old.action
  pub timeouts : new.timeouts ≡ old.timeouts

abbrev pub OpeningStays : Type 0
OpeningStays = (flow : Flow) (way : Way) (arg : FlowArg) → KeepsOpening flow (next_flow flow way arg)

-- the flow is one of TCP
abbrev pub IsTcp : FlowKind → Type 0
IsTcp (Tcp _) = Unit {0}
IsTcp (Other _) = ⊥

-- a flow of TCP stays one, and another doesn't become one
abbrev pub ProtocolStays : Type 0
ProtocolStays = (flow : Flow) (way : Way) (arg : FlowArg) → IsTcp (next_flow flow way arg).kind ↔ IsTcp flow.kind

-- an answered flow stays answered
abbrev pub StaysAnswered : Type 0
StaysAnswered = (flow : Flow) (way : Way) (arg : FlowArg) → flow.kind ≡ Other true → (next_flow flow way arg).kind ≡ Other true

-- a flow is due exactly from its last time and its own timeout on
abbrev pub IsDueExactly : Type 0
IsDueExactly = (flow : Flow) (now : ℕ) → (is_due flow now ≡ true) ↔ (flow.last + timeout flow ≤ now)

-- a flow isn't due before its last time, whatever its timeouts, nor at it where they are such as can be set
abbrev pub IsNotDueBeforeLast : Type 0
IsNotDueBeforeLast = (flow : Flow) (now : ℕ) → now < flow.last → is_due flow now ≡ false

abbrev pub IsNotDueByLast : Type 0
IsNotDueByLast = (flow : Flow) (now : ℕ) → AreTimeouts flow.timeouts → now ≤ flow.last → is_due flow now ≡ false

-- so a flow that an accepted packet moves on isn't due at that packet's time, nor is one that a packet opens
abbrev pub IsNotDueAtPacket : Type 0
IsNotDueAtPacket =
    (flow : Flow) (way : Way) (arg : FlowArg) → AreTimeouts flow.timeouts → arg.peek ≡ false → is_passed flow way arg ≡ true →
    is_due (next_flow flow way arg) arg.now ≡ false

abbrev pub IsNotDueAtOpening : Type 0
IsNotDueAtOpening =
    (arg : FlowArg) (settings : FlowSettings) (opener : ℕ) (there back : Change) (action : Action) → AreTimeouts settings.timeouts →
    is_due (opening_flow arg settings opener there back action) arg.now ≡ false

-- a flow that is due stays due until its next packet
abbrev pub StaysDue : Type 0
StaysDue = (flow : Flow) (now later : ℕ) → now ≤ later → is_due flow now ≡ true → is_due flow later ≡ true

-- After any packets a flow's last time is the latest of its own and of those that it accepted, and those that were refused or only
-- peeked have left no trace.
abbrev pub LastIsLatest : Type 0
LastIsLatest = (flow : Flow) (packets : Packets) → (flow_after flow packets).last ≡ latest flow.last (accepted flow packets)

abbrev pub RefusedLeaveNoTrace : Type 0
RefusedLeaveNoTrace = (flow : Flow) (packets : Packets) → flow_after flow packets ≡ flow_after flow (accepted flow packets)

-- A flow of another protocol is answered exactly where it was or one of them came backward, its last time is the latest of all,
-- and all else is what its opening made it; those that only peek don't count.
abbrev pub IsAsItsPackets : Type 0
IsAsItsPackets =
    (flow : Flow) (answered : Bool) (packets : Packets) → flow.kind ≡ Other answered →
    flow_after flow packets ≡ record flow {
      kind = Other (answered || has_backward (moving packets));
      last = latest flow.last (moving packets);
    }

-- where the flow is one of TCP, this holds of its state
abbrev pub OfState : (TcpState → Type 0) → FlowKind → Type 0
OfState P (Tcp state) = P state
OfState P (Other _) = Unit {0}

-- after any packets since its opening, no side of the connection has offered a window before it is seen
abbrev pub ReachedIsQuiet : Type 0
ReachedIsQuiet =
    (arg : FlowArg) (settings : FlowSettings) (opener : ℕ) (there back : Change) (action : Action) (packets : Packets) →
    OfState (BothSides IsQuietUnseen) (flow_after (opening_flow arg settings opener there back action) packets).kind

-- so no packet lowers the greatest window that a side has offered
abbrev pub OfStates : (TcpState → TcpState → Type 0) → FlowKind → FlowKind → Type 0
OfStates P (Tcp old) (Tcp new) = P old new
OfStates P (Tcp _) (Other _) = ⊥
OfStates P (Other _) _ = Unit {0}

abbrev pub MaxwinStaysUp : Type 0
MaxwinStaysUp =
    (arg : FlowArg) (settings : FlowSettings) (opener : ℕ) (there back : Change) (action : Action) (packets : Packets) (way : Way) (next : FlowArg) →
    let flow : Flow = flow_after (opening_flow arg settings opener there back action) packets in
    OfStates (EachSide (λ old new. old.maxwin ≤ new.maxwin)) flow.kind (next_flow flow way next).kind
