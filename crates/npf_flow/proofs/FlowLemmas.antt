-- What a packet makes of a flow.
use Rattle.std.{proofs.Common.{◌≡◌, ◌≤◌, Bool, true, false, not, ◌&&◌, ◌||◌, Option, Some, None, cond, refl, max, arith}, specs.Prelude.◌↔◌}
use Rattle.npf_types.specs.declared.{facts.Segment.Segment, key.Way.Way}
use Rattle.npf_tcp.specs.{Laws.{BothSides, EachSide, IsQuietUnseen, OpeningIsQuiet, StepKeepsQuiet, MaxwinNeverFalls}, declared.state.TcpSide.TcpSide}
use Rattle.npf_flow.specs.declared.{flow.{Flow.Flow, FlowKind.{FlowKind, TheVariants.{Tcp, Other}}}, step.FlowArg.FlowArg}
use Rattle.npf_flow.specs.{Flows.{opening_kind, moves_on, kind_after, next_flow}, Laws.{KeepsOpening, IsTcp, OfState, OfStates}}

-- the flow after a packet that moves it on
abbrev pub went_on : Flow → Way → FlowArg → Flow
went_on flow way arg = record flow { kind = kind_after flow.kind way arg.seg; last = max flow.last arg.now }

-- what holds after such a packet, and of the flow as it is, holds after a packet
pub next_cases : (flow : Flow) (way : Way) (arg : FlowArg) (P : Flow → Type 0) → P (went_on flow way arg) → P flow → P (next_flow flow way arg)
next_cases flow way arg P accepted refused = by (moves_on flow.kind way arg)
  where
    by : (b : Bool) → P (cond b (went_on flow way arg) flow)
    by true = accepted
    by false = refused

pub unmoved_stays : (flow : Flow) (way : Way) (arg : FlowArg) → moves_on flow.kind way arg ≡ false → next_flow flow way arg ≡ flow
unmoved_stays flow way arg h = rw h refl

pub moved_goes_on : (flow : Flow) (way : Way) (arg : FlowArg) → moves_on flow.kind way arg ≡ true → next_flow flow way arg ≡ went_on flow way arg
moved_goes_on flow way arg h = rw h refl

-- a packet that doesn't pass is refused, and one that passes and doesn't only peek is accepted
pub not_passed : (peek accepted : Bool) → (peek || accepted) ≡ false → (not peek && accepted) ≡ false
not_passed true accepted h = refl
not_passed false accepted h = h

pub passed_moves : (peek accepted : Bool) → peek ≡ false → (peek || accepted) ≡ true → (not peek && accepted) ≡ true
passed_moves true accepted p h = absurd cc
passed_moves false accepted p h = h

pub last_rises : (flow : Flow) (way : Way) (arg : FlowArg) → flow.last ≤ (next_flow flow way arg).last
last_rises flow way arg = next_cases flow way arg (λ next. flow.last ≤ next.last) (omega arith) (omega arith)

pub opening_kept : (flow : Flow) (way : Way) (arg : FlowArg) → KeepsOpening flow (next_flow flow way arg)
opening_kept flow way arg =
    let same : KeepsOpening flow flow = record { opener = refl; there = refl; back = refl; action = refl; timeouts = refl } in
    next_cases flow way arg (KeepsOpening flow) (record { opener = refl; there = refl; back = refl; action = refl; timeouts = refl }) same

kind_protocol : (kind : FlowKind) (way : Way) (seg : Option Segment) → IsTcp (kind_after kind way seg) ↔ IsTcp kind
kind_protocol (Tcp state) way (Some seg) = (λ t. t, λ t. t)
kind_protocol (Tcp state) way None = (λ t. t, λ t. t)
kind_protocol (Other answered) way seg = (λ t. t, λ t. t)

pub protocol_kept : (flow : Flow) (way : Way) (arg : FlowArg) → IsTcp (next_flow flow way arg).kind ↔ IsTcp flow.kind
protocol_kept flow way arg =
    next_cases flow way arg (λ next. IsTcp next.kind ↔ IsTcp flow.kind) (kind_protocol flow.kind way arg.seg) (λ t. t, λ t. t)

pub answered_kept : (flow : Flow) (way : Way) (arg : FlowArg) → flow.kind ≡ Other true → (next_flow flow way arg).kind ≡ Other true
answered_kept flow way arg h = next_cases flow way arg (λ next. next.kind ≡ Other true) (rw h refl) h

-- the sides of a connection of TCP that aren't seen have offered no window
abbrev pub IsQuiet : FlowKind → Type 0
IsQuiet = OfState (BothSides IsQuietUnseen)

pub quiet_opening : OpeningIsQuiet → (strict : Bool) (seg : Option Segment) → IsQuiet (opening_kind strict seg)
quiet_opening opens strict (Some seg) = opens seg strict
quiet_opening opens strict None = tt

quiet_kind : StepKeepsQuiet → (kind : FlowKind) (way : Way) (seg : Option Segment) → IsQuiet kind → IsQuiet (kind_after kind way seg)
quiet_kind keeps (Tcp state) way (Some seg) quiet = keeps state way seg quiet
quiet_kind keeps (Tcp state) way None quiet = quiet
quiet_kind keeps (Other answered) way seg quiet = tt

pub quiet_next : StepKeepsQuiet → (flow : Flow) (way : Way) (arg : FlowArg) → IsQuiet flow.kind → IsQuiet (next_flow flow way arg).kind
quiet_next keeps flow way arg quiet =
    next_cases flow way arg (λ next. IsQuiet next.kind) (quiet_kind keeps flow.kind way arg.seg quiet) quiet

-- so no side's greatest window falls
abbrev pub StaysUp : FlowKind → FlowKind → Type 0
StaysUp = OfStates (EachSide (λ (old new : TcpSide). old.maxwin ≤ new.maxwin))

same_up : (kind : FlowKind) → StaysUp kind kind
same_up (Tcp state) = (omega arith, omega arith)
same_up (Other answered) = tt

up_kind : MaxwinNeverFalls → (kind : FlowKind) (way : Way) (seg : Option Segment) → IsQuiet kind → StaysUp kind (kind_after kind way seg)
up_kind rises (Tcp state) way (Some seg) quiet = rises state way seg quiet
up_kind rises (Tcp state) way None quiet = (omega arith, omega arith)
up_kind rises (Other answered) way seg quiet = tt

pub up_next : MaxwinNeverFalls → (flow : Flow) (way : Way) (arg : FlowArg) → IsQuiet flow.kind → StaysUp flow.kind (next_flow flow way arg).kind
up_next rises flow way arg quiet =
    next_cases flow way arg (λ next. StaysUp flow.kind next.kind) (up_kind rises flow.kind way arg.seg quiet) (same_up flow.kind)
