-- What an answer to a question about a class shows of packets that are treated in one way: passed, or blocked.
use Rattle.std.specs.Prelude.{◌≡◌, ℕ, Bool, false, Option, Some, None, List, slice_index_or}
use Rattle.npf_model.specs.declared.model.Model.{Model}
use Rattle.npf_model.specs.declared.rule.Rule.{Rule}
use Rattle.npf_model.specs.Configuration.{Configuration}
use Rattle.npf_products.specs.declared.packet.CellPacket.{CellPacket}
use Rattle.npf_judge.specs.Says.{HasTreated, place_passes}
use Rattle.npf_ctl_check.specs.declared.first.Decided.{Decided}
use Rattle.npf_ctl_check.specs.CheckText.{IsFirstTreating}

-- the packet that is shown for the rule at a place, if the rule treats it so
abbrev pub ShowsRule : Model → List (Option CellPacket) → Bool → ℕ → Option CellPacket → Type 0
ShowsRule model rules passed place None = place_passes model (Some place) ≡ passed → slice_index_or rules place None ≡ None
ShowsRule model rules passed place (Some packet) = (place_passes model (Some place) ≡ passed) × (slice_index_or rules place None ≡ Some packet)

-- the packet that is shown for none, if that treats it so: what no rule decides on is blocked
abbrev pub ShowsNone : Option CellPacket → Bool → Option Decided → Type 0
ShowsNone none passed None = passed ≡ false → none ≡ None
ShowsNone none passed (Some decided) = (passed ≡ false) × (none ≡ Some decided.packet) × (decided.rule ≡ None)

-- the first decider that treats a packet of the class so; none where no packet of it is treated so
abbrev pub IsFoundFirst : Configuration → Rule → Bool → Option Decided → Type 0
IsFoundFirst config class passed None = ¬ HasTreated config class passed
IsFoundFirst config class passed (Some decided) = IsFirstTreating config class passed decided.rule decided.packet
