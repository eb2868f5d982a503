-- What a run leaves of its packets, as far as that is reported and written.
use Rattle.std.specs.Prelude.{◌≡◌, ℕ, true, List, [], ◌∷◌}
use Rattle.npf_types.specs.declared.facts.Facts.{Facts}
use Rattle.npf_packet.specs.declared.decoded.Decoded.TheVariants.{Ip}
use Rattle.npf_packet.specs.Decoder.{Decodes}
use Rattle.npf_connections.specs.Pass.{Pass}
use Rattle.npf_model.specs.Configuration.{Configuration}
use Rattle.npf_engine.specs.declared.outcome.Outcome.{Outcome}
use Rattle.npf_engine.specs.Histories.{FlowEntry}
use Rattle.npf_engine.specs.Outcome.{passes}
use Rattle.npf_traffic.specs.declared.packet.Packet.{Packet}
use Rattle.npf_traffic.specs.declared.phase.Phase.{Phase}
use Rattle.npf_traffic.specs.declared.phase.Spread.{Spread}
use Rattle.npf_runner.specs.Plays.{PlaysPhases}

-- the packet is one of IP
abbrev pub IsOfIp : Packet → Type 0
IsOfIp packet = (facts : Facts) × Decodes packet.link packet.bytes (Ip facts)

-- a packet that was left so: it is as it was but for its bytes, and only one of IP passes
pub record IsOutputOf (packet : Packet) (outcome : Outcome) (output : Packet) : Type 0 where
  pub same : output ≡ record packet { bytes = output.bytes }
  pub ip : passes outcome ≡ true → IsOfIp packet

-- each of the packets was left so
abbrev pub AreOutputsOf : List Packet → List Outcome → List Packet → Type 0
AreOutputsOf [] [] [] = Unit {0}
AreOutputsOf (packet ∷ packets) (outcome ∷ outcomes) (output ∷ outputs) =
    IsOutputOf packet outcome output × AreOutputsOf packets outcomes outputs
AreOutputsOf _ _ _ = ⊥

-- so every run leaves its packets
abbrev pub PlayedAreOutputs : Type 0
PlayedAreOutputs =
    (configs : List Configuration) (workers : ℕ) (spread : Spread) (old new : Pass FlowEntry) (phases : List Phase)
    (packets outputs : List Packet) (outcomes : List Outcome) →
    PlaysPhases configs workers spread old new phases packets outputs outcomes → AreOutputsOf packets outcomes outputs
