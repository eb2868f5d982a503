-- Which worker takes each of some packets.
use Rattle.std.specs.Prelude.{◌≡◌, ◌<◌, ◌+◌, ℕ, List, [], ◌∷◌, All, length, replicate, slice_index_or}
use Rattle.npf_runner_dealing.specs.Lanes.{IsDealt}
use Rattle.npf_runner.specs.declared.order.Order.{Order}
use Rattle.npf_runner.specs.declared.order.Order.TheVariants.{Only, Each}
use Rattle.npf_traffic.specs.declared.phase.Spread.{Spread}
use Rattle.npf_runner.specs.Plays.{arriving}
use Rattle.npf_runner.specs.Spread.{IsWorkerOf}
use Rattle.npf_traffic.specs.declared.packet.Packet.{Packet}

-- the workers of so many packets
abbrev pub workers_by : Order → ℕ → List ℕ
workers_by Only packets = replicate packets 0
workers_by (Each workers) packets = workers.items

-- it is an order of so many packets for so many workers
abbrev pub IsOrder : Order → ℕ → ℕ → Type 0
IsOrder Only packets workers = workers ≡ 1
IsOrder (Each order) packets workers = (length order.items ≡ packets) × All (λ worker. worker < workers) order.items

-- the list was dealt to the workers' lists so
abbrev pub IsDealtBy : {X : Type 0} → Order → List X → List (List X) → Type 0
IsDealtBy Only xs lanes = lanes ≡ xs ∷ []
IsDealtBy (Each order) xs lanes = IsDealt order.items xs lanes

-- the worker takes the packet at this place, where the packets are numbered from `first` on
pub record IsWorkerAt (spread : Spread) (workers first : ℕ) (packets : List Packet) (place worker : ℕ) : Type 0 where
  pub fits : worker < workers
  pub takes : (packet : Packet) → packet ≡ slice_index_or packets place packet → IsWorkerOf spread workers (arriving (first + place) packet) worker
