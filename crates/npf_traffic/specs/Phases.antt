-- The phases of a run: how many packets they have, and which configurations their commands publish.
use Rattle.std.specs.Prelude.{◌≡◌, ◌<◌, ℕ, ◌+◌, List, [], ◌∷◌, map, sum}
use Rattle.npf_traffic.specs.declared.phase.Command.{Command}
use Rattle.npf_traffic.specs.declared.phase.Command.TheVariants.{Publish, Expire}
use Rattle.npf_traffic.specs.declared.phase.Phase.{Phase}

abbrev pub packets_in : List Phase → ℕ
packets_in phases = sum (map (λ phase. phase.packets) phases)

-- how many configurations are published by commands
abbrev pub published_by : List Command → ℕ
published_by [] = 0
published_by (Publish place ∷ commands) = 1 + published_by commands
published_by (Expire now ∷ commands) = published_by commands

-- commands publish the places behind this one, in order, each below the count of configurations
abbrev pub PublishFrom : ℕ → ℕ → List Command → Type 0
PublishFrom count last [] = Unit {0}
PublishFrom count last (Publish place ∷ commands) = (place ≡ last + 1) × (place < count) × PublishFrom count (last + 1) commands
PublishFrom count last (Expire now ∷ commands) = PublishFrom count last commands

abbrev pub PhasesPublishFrom : ℕ → ℕ → List Phase → Type 0
PhasesPublishFrom count last [] = Unit {0}
PhasesPublishFrom count last (phase ∷ phases) =
    PublishFrom count last phase.commands × PhasesPublishFrom count (last + published_by phase.commands) phases

-- there is a first configuration, and the publications name the places 1, 2 and so on
abbrev pub AreInOrder : ℕ → List Phase → Type 0
AreInOrder count phases = (0 < count) × PhasesPublishFrom count 0 phases
