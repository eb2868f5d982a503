-- Which worker takes a packet.
use Rattle.std.specs.Prelude.{◌≡◌, ◌-◌, ◌%◌, ℕ, bit_xor, MatchOption}
use Rattle.npf_types.specs.declared.facts.Facts.{Facts}
use Rattle.npf_engine.specs.Arrival.{Arrival}
use Rattle.npf_key.specs.Key.{upper, lower}
use Rattle.npf_key.specs.Port.{source_port, destination_port}
use Rattle.npf_packet.specs.declared.decoded.Decoded.{Decoded}
use Rattle.npf_packet.specs.declared.decoded.Decoded.TheVariants as Says
use Rattle.npf_packet.specs.Decoder.{Decodes}
use Rattle.npf_traffic.specs.declared.phase.Spread.{Spread}
use Rattle.npf_traffic.specs.declared.phase.Spread.TheVariants.{Rr, Flow}

-- a number that is the same with source and destination changed about: the exclusive or of the addresses' halves, of both ports and of
-- the protocol
abbrev pub flow_number : Facts → ℕ
flow_number facts =
    bit_xor (bit_xor (bit_xor (upper facts.src) (lower facts.src)) (bit_xor (upper facts.dst) (lower facts.dst)))
    (bit_xor (bit_xor (source_port facts.l4) (destination_port facts.l4)) facts.proto)

-- what a record says is dealt to this worker: what is skipped or malformed goes to the first
abbrev pub worker_by_flow : ℕ → Decoded → ℕ
worker_by_flow workers Says.Skip = 0
worker_by_flow workers (Says.Malformed why at) = 0
worker_by_flow workers (Says.Ip facts) = flow_number facts % workers

-- the packet goes to this worker, counted from 0; by flows a fragment that is held goes to the first
abbrev pub IsWorkerOf : Spread → ℕ → Arrival → ℕ → Type 0
IsWorkerOf Rr workers arrival worker = worker ≡ (arrival.number - 1) % workers
IsWorkerOf Flow workers arrival worker = MatchOption arrival.held
    ((decoded : Decoded) → Decodes arrival.link arrival.bytes decoded → worker ≡ worker_by_flow workers decoded)
    (λ why. worker ≡ 0)
