-- How a phase parts.
use Rattle.std.proofs.{Common.{◌≡◌, ◌∙◌, ◌+◌, ℕ, Option, List, ◌∷◌, ◌++◌, take, drop, sym, ap, append_assoc}, lemmas.List.drop-drop}
use Rattle.npf_traffic.specs.declared.phase.Phase.{Phase}
use Rattle.npf_ctl_aging.specs.Aging.{parts_from_tick, parts_of_phase, parts_of_phases, until_tick}

-- a part that has some of its packets, and what follows it
abbrev pub parts_behind : Phase → List (Option ℕ) → List Phase
parts_behind part ticks = record { packets = part.packets + until_tick ticks; commands = part.commands } ∷ parts_from_tick ticks

-- the parts of one phase more
pub parts_more :
    (parts : List Phase) (phase : Phase) (phases : List Phase) (ticks : List (Option ℕ)) (from : ℕ) →
    parts ++ parts_of_phases (drop from ticks) (phase ∷ phases)
    ≡ (parts ++ parts_of_phase phase.commands (take phase.packets (drop from ticks))) ++ parts_of_phases (drop (from + phase.packets) ticks) phases
parts_more parts phase phases ticks from =
    ap (λ rest. parts ++ (parts_of_phase phase.commands (take phase.packets (drop from ticks)) ++ parts_of_phases rest phases))
    (drop-drop phase.packets from ticks)
    ∙ sym (append_assoc parts (parts_of_phase phase.commands (take phase.packets (drop from ticks))) (parts_of_phases (drop (from + phase.packets) ticks) phases))
