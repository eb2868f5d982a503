-- A flow over many packets.
use Rattle.std.proofs.Common.{◌≡◌, ◌∙◌, ℕ, Bool, true, false, not, ◌&&◌, ◌||◌, [], ◌∷◌, cond, refl, ap, max, arith}
use Rattle.npf_types.specs.declared.{action.Action.Action, change.Change.Change, key.Way.Way}
use Rattle.npf_tcp.specs.Laws.{StepKeepsQuiet}
use Rattle.npf_timeouts.specs.declared.timeouts.Timeouts.{Timeouts}
use Rattle.npf_flow.specs.{declared.{flow.{Flow.Flow, FlowKind.{FlowKind, TheVariants.Other}}, step.FlowArg.FlowArg}, Flows.{moves_on, next_flow, is_backward}}
use Rattle.npf_flow.{specs.Run.{Packets, flow_after, accepted, moving, has_backward, latest}, proofs.FlowLemmas.{went_on, unmoved_stays, IsQuiet, quiet_next}}

-- a packet's time may be counted first or last
latest_max : (time now : ℕ) (packets : Packets) → latest (max time now) packets ≡ max now (latest time packets)
latest_max time now [] = grind arith
latest_max time now (packet ∷ packets) = let rest = latest_max time now packets in grind arith

-- a packet counts where it moves the flow on
counts : (flow : Flow) (way : Way) (arg : FlowArg) (rest : Packets) →
    latest (next_flow flow way arg).last rest ≡ latest flow.last (cond (moves_on flow.kind way arg) ((way, arg) ∷ rest) rest)
counts flow way arg rest = by (moves_on flow.kind way arg)
  where
    by : (b : Bool) → latest (cond b (went_on flow way arg) flow).last rest ≡ latest flow.last (cond b ((way, arg) ∷ rest) rest)
    by true = latest_max flow.last arg.now rest
    by false = refl

pub last_is_latest : (flow : Flow) (packets : Packets) → (flow_after flow packets).last ≡ latest flow.last (accepted flow packets)
last_is_latest flow [] = refl
last_is_latest flow ((way, arg) ∷ packets) =
    let next : Flow = next_flow flow way arg in
    last_is_latest next packets ∙ counts flow way arg (accepted next packets)

-- and one that doesn't leaves no trace
passes_over : (flow : Flow) (way : Way) (arg : FlowArg) (rest : Packets) →
    flow_after (next_flow flow way arg) rest ≡ flow_after flow (cond (moves_on flow.kind way arg) ((way, arg) ∷ rest) rest)
passes_over flow way arg rest = by (moves_on flow.kind way arg) refl
  where
    by : (b : Bool) → moves_on flow.kind way arg ≡ b → flow_after (next_flow flow way arg) rest ≡ flow_after flow (cond b ((way, arg) ∷ rest) rest)
    by true e = refl
    by false e = ap (λ (next : Flow). flow_after next rest) (unmoved_stays flow way arg e)

pub no_trace : (flow : Flow) (packets : Packets) → flow_after flow packets ≡ flow_after flow (accepted flow packets)
no_trace flow [] = refl
no_trace flow ((way, arg) ∷ packets) =
    let next : Flow = next_flow flow way arg in
    no_trace next packets ∙ passes_over flow way arg (accepted next packets)

pub quiet_after : StepKeepsQuiet → (flow : Flow) (packets : Packets) → IsQuiet flow.kind → IsQuiet (flow_after flow packets).kind
quiet_after keeps flow [] quiet = quiet
quiet_after keeps flow ((way, arg) ∷ packets) quiet = quiet_after keeps (next_flow flow way arg) packets (quiet_next keeps flow way arg quiet)

-- a flow that isn't answered is one that no packet answers
of_none : (answered : Bool) → answered ≡ (answered || false)
of_none true = refl
of_none false = refl

module _ (opener : ℕ) (there back : Change) (action : Action) (timeouts : Timeouts) where
  -- a flow of these parts
  abbrev other : Bool → ℕ → Flow
  other answered last =
      record { kind = Other answered; last = last; opener = opener; there = there; back = back; action = action; timeouts = timeouts }

  -- these packets make it of the one with these parts
  abbrev IsMade : Flow → Bool → ℕ → Packets → Type 0
  IsMade flow answered last packets = flow ≡ other (answered || has_backward packets) (latest last packets)

  -- a packet that counts is the first of them
  counted : (flow : Flow) (answered : Bool) (last : ℕ) (way : Way) (arg : FlowArg) (packets : Packets) →
      IsMade flow (answered || is_backward way) (max last arg.now) packets → IsMade flow answered last ((way, arg) ∷ packets)
  counted flow true last way arg packets made = made ∙ ap (other true) (latest_max last arg.now packets)
  counted flow false last way arg packets made =
      made ∙ ap (other (is_backward way || has_backward packets)) (latest_max last arg.now packets)

  as_packets : (answered : Bool) (last : ℕ) (packets : Packets) → IsMade (flow_after (other answered last) packets) answered last (moving packets)
  as_packets answered last [] = ap (λ (b : Bool). other b last) (of_none answered)
  as_packets answered last ((way, arg) ∷ packets) =
      by arg.peek (as_packets answered last packets)
      (counted _ answered last way arg (moving packets) (as_packets (answered || is_backward way) (max last arg.now) packets))
    where
      by : (peek : Bool) → IsMade (flow_after (other answered last) packets) answered last (moving packets) →
          IsMade (flow_after (other (answered || is_backward way) (max last arg.now)) packets) answered last ((way, arg) ∷ moving packets) →
          IsMade (flow_after (cond (not peek && true) (other (answered || is_backward way) (max last arg.now)) (other answered last)) packets)
          answered last (cond (not peek) ((way, arg) ∷ moving packets) (moving packets))
      by true peeked made = peeked
      by false peeked made = made

pub as_its_packets : (flow : Flow) (answered : Bool) (packets : Packets) → flow.kind ≡ Other answered →
    flow_after flow packets
    ≡ record flow { kind = Other (answered || has_backward (moving packets)); last = latest flow.last (moving packets) }
as_its_packets flow answered packets h =
    ap (λ (kind : FlowKind). flow_after (record flow { kind = kind }) packets) h
    ∙ as_packets flow.opener flow.there flow.back flow.action flow.timeouts answered flow.last packets
