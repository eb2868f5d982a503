-- How many packets the parts of phases have.
use Rattle.std.proofs.{Common.{◌≡◌, ◌≤◌, ◌+◌, ◌∙◌, ℕ, suc, Option, None, Some, List, [], ◌∷◌, ◌++◌, length, take, drop, refl, sym, ap, zero-add, arith}, lemmas.List.{length-take-le, length-drop}}
use Rattle.npf_traffic.specs.{declared.{packet.Packet.Packet, phase.{Command.Command, Phase.Phase}}, Phases.packets_in}
use Rattle.npf_traffic.proofs.PhaseLemmas.{packets_in-cons}
use Rattle.npf_ctl_aging.specs.Aging.{expiry, parts_from_tick, parts_of_phase, parts_of_phases, ticks_behind, until_tick}

pub length-ticks_behind : (seconds : ℕ) (before : Option ℕ) (packets : List Packet) → length (ticks_behind seconds before packets) ≡ length packets
length-ticks_behind seconds before [] = refl
length-ticks_behind seconds before (packet ∷ packets) = ap suc (length-ticks_behind seconds (Some packet.time) packets)

packets_in-append : (xs ys : List Phase) → packets_in (xs ++ ys) ≡ packets_in xs + packets_in ys
packets_in-append [] ys = sym (zero-add (packets_in ys))
packets_in-append (x ∷ xs) ys = omega (arith, packets_in-cons x (xs ++ ys), packets_in-cons x xs, packets_in-append xs ys)

-- from the first packet that follows a multiple on
packets_from_tick : (ticks : List (Option ℕ)) → until_tick ticks + packets_in (parts_from_tick ticks) ≡ length ticks
packets_from_tick [] = refl
packets_from_tick (None ∷ ticks) = omega (arith, packets_from_tick ticks)
packets_from_tick (Some tick ∷ ticks) =
    let part : Phase = record { packets = 1 + until_tick ticks; commands = [] } in
    omega (arith, packets_in-cons (expiry tick) (part ∷ parts_from_tick ticks), packets_in-cons part (parts_from_tick ticks), packets_from_tick ticks)

packets_of_phase : (commands : List Command) (ticks : List (Option ℕ)) → packets_in (parts_of_phase commands ticks) ≡ length ticks
packets_of_phase commands ticks =
    packets_in-cons (record { packets = until_tick ticks; commands = commands }) (parts_from_tick ticks) ∙ packets_from_tick ticks

pub packets_of_phases :
    (ticks : List (Option ℕ)) (phases : List Phase) → packets_in phases ≤ length ticks → packets_in (parts_of_phases ticks phases) ≡ packets_in phases
packets_of_phases ticks [] within = refl
packets_of_phases ticks (phase ∷ phases) within =
    let first : List (Option ℕ) = take phase.packets ticks in
    let rest : List (Option ℕ) = drop phase.packets ticks in
    let whole : phase.packets + packets_in phases ≤ length ticks = omega (arith, packets_in-cons phase phases) in
    let has : length first ≡ phase.packets = length-take-le phase.packets ticks (omega arith) in
    omega (
      arith,
      packets_in-append (parts_of_phase phase.commands first) (parts_of_phases rest phases),
      packets_of_phase phase.commands first,
      has,
      packets_of_phases rest phases (omega (arith, length-drop phase.packets ticks)),
      packets_in-cons phase phases,
    )
