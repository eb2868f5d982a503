use Rattle.std.proofs.Common.{◌≡◌, ◌≤◌, ◌+◌, ◌++◌, ◌∙◌, ℕ, None, Option, List, ◌∷◌, length, get_or, take, drop, ap, arith}
use Rattle.npf_traffic.specs.declared.{packet.Packet.Packet, phase.Phase.Phase}
use Rattle.npf_traffic.specs.Phases.{packets_in}
use Rattle.npf_traffic.proofs.PhaseLemmas.{packets_in-cons}
use Rattle.npf_ctl_aging.specs.Aging.{parts_of_phase, parts_of_phases, ticks, ticks_behind, times_before}
use Rattle.npf_ctl_aging.proofs.{PartLemmas.parts_more, TickLemmas.ticks_of_part}
use Rattle.npf_ctl_aging.proofs.phases.aged.Goals as goal

phase_said :
    (seconds from : ℕ) (packets behind own : List Packet) (before : Option ℕ) (phase : Phase) (items phases parts more all : List Phase) →
    from ≤ length packets → items ≡ phase ∷ phases → all ≡ parts ++ parts_of_phases (drop from (ticks seconds packets)) items →
    before ≡ get_or (times_before packets) from None → behind ≡ drop from packets → own ≡ take phase.packets behind →
    more ≡ parts ++ parts_of_phase phase.commands (ticks_behind seconds before own) →
    all ≡ more ++ parts_of_phases (drop (from + phase.packets) (ticks seconds packets)) phases
phase_said seconds from packets behind own before phase items phases parts more all within steps said time back front gave =
    grind (arith, parts_more parts phase phases (ticks seconds packets) from, ticks_of_part seconds packets from phase.packets within)

adds_up :
    (from count : ℕ) (phase : Phase) (items phases : List Phase) →
    items ≡ phase ∷ phases → from + packets_in items ≡ count → from + phase.packets + packets_in phases ≡ count
adds_up from count phase items phases steps all = omega (arith, ap packets_in steps ∙ packets_in-cons phase phases)

pub loop-phase-preserved : goal.loop-phase-preserved
loop-phase-preserved c = record {
  all = adds_up _ _ _ _ _ c.in-Some.ensures.steps.0 c.loop-phase.invariant.all;
  said = phase_said c.args.every c.loop-phase.from c.args.packets.now c.split_at.result.1.now c.split_at-in-loop-phase.result.0.now
      c.time_before-before.result c.in-Some.phase c.loop-phase.phase-iterator.rest.items c.next.new.self.rest.items
      c.loop-phase.parts.items c.in_ok-parts.parts.items _
      (omega (arith, c.loop-phase.invariant.all)) c.in-Some.ensures.steps.0 c.loop-phase.invariant.said
      c.time_before-before.ensures c.split_at.ensures.back c.split_at-in-loop-phase.ensures.front c.in_ok-parts.ensures;
}
