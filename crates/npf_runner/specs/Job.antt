-- The packets of a phase with their numbers, and what became of them.
use Rattle.std.specs.Prelude.{ℕ, ◌≤◌, ◌<◌, ◌+◌, ◌^◌, List, [], ◌∷◌}
use Rattle.npf_engine.specs.declared.outcome.Outcome.{Outcome}
use Rattle.npf_engine.specs.Arrival.{Arrival}
use Rattle.npf_traffic.specs.declared.packet.Packet.{Packet}
use Rattle.npf_runner.specs.Plays.{arriving}
use Rattle.npf_traffic.specs.Packet.{IsShortPacket}

-- a packet with its number in the run
pub record Job : Type 0 where
  pub number : ℕ
  pub packet : Packet

-- what became of a packet
pub record Handled : Type 0 where
  pub outcome : Outcome
  pub packet : Packet

-- packets with these numbers
abbrev pub with_numbers : List ℕ → List Packet → List Job
with_numbers (n ∷ numbers) (packet ∷ packets) = record { number = n; packet = packet } ∷ with_numbers numbers packets
with_numbers _ _ = []

-- packets numbered from n on
abbrev pub numbered_from : ℕ → List Packet → List Job
numbered_from n [] = []
numbered_from n (packet ∷ packets) = record { number = n; packet = packet } ∷ numbered_from (n + 1) packets

-- the packet as it arrives
abbrev pub job_arrival : Job → Arrival
job_arrival job = arriving job.number job.packet

-- numbers begin at 1 and are below 2^64, and packets aren't too long
pub record IsJob (job : Job) : Type 0 where
  pub counts : 1 ≤ job.number
  pub fits : job.number < 2 ^ 64
  pub short : IsShortPacket job.packet
