-- Orders as lists, and the order for one worker.
use Rattle.std.proofs.Common.{◌≡◌, ℕ, ◌<◌, ◌+◌, List, [], ◌∷◌, Option, Some, None, length, replicate, refl, sym, ap, subst, ◌∙◌, arith}
use Rattle.std.{specs.{Prelude.MatchOption, List.AllZip}, proofs.lemmas.List.{get_or-replicate, length-replicate}}
use Rattle.npf_runner_dealing.{specs.Lanes.IsDealt, proofs.LaneLemmas.{dealt_to_one, one_has_all}}
use Rattle.npf_traffic.specs.declared.{packet.{FragWhy.FragWhy, Packet.Packet}, phase.Spread.{Spread, TheVariants.{Rr, Flow}}}
use Rattle.npf_packet.specs.{declared.decoded.Decoded.Decoded, Decoder.Decodes}
use Rattle.npf_packet.specs.declared.decoded.Decoded.TheVariants as Says
use Rattle.npf_engine.specs.Arrival.{Arrival}
use Rattle.npf_runner.specs.{declared.order.Order.{Order, TheVariants.{Only, Each}}, Job.{Job, job_arrival, numbered_from}}
use Rattle.npf_runner.specs.{Order.{IsDealtBy, IsOrder, workers_by}, Spread.{IsWorkerOf, worker_by_flow}}

-- what is dealt by the list of an order is dealt by the order
pub dealt_by : {X : Type 0} (order : Order) (packets workers : ℕ) (xs : List X) (lanes : List (List X)) → IsOrder order packets workers → length lanes ≡ workers →
    IsDealt (workers_by order packets) xs lanes → IsDealtBy order xs lanes
dealt_by Only packets workers xs [] is count dealt = absurd (omega (arith, is, count))
dealt_by Only packets workers xs (lane ∷ []) is count dealt = ap (λ l. l ∷ []) (one_has_all (replicate packets 0) xs lane dealt)
dealt_by Only packets workers xs (lane ∷ other ∷ lanes) is count dealt = absurd (omega (arith, is, count))
dealt_by (Each order) packets workers xs lanes is count dealt = dealt

-- with one worker all go to it
pub dealt_to_only : {X : Type 0} (packets : ℕ) (xs : List X) → length xs ≡ packets → IsDealt (replicate packets 0) xs (xs ∷ [])
dealt_to_only packets xs n = dealt_to_one (replicate packets 0) xs (n ∙ sym (length-replicate packets 0))
    (λ k d low. let at = get_or-replicate packets k 0 d (subst (λ m. k < m) (length-replicate packets 0) low) in omega (arith, at))

only_by_flow : (decoded : Decoded) → 0 ≡ worker_by_flow 1 decoded
only_by_flow Says.Skip = refl
only_by_flow (Says.Malformed why at) = refl
only_by_flow (Says.Ip facts) = omega arith

only_worker : (spread : Spread) (arrival : Arrival) → IsWorkerOf spread 1 arrival 0
only_worker Rr arrival = omega arith
only_worker Flow arrival = by_held arrival.held
  where
    by_held : (held : Option FragWhy) → MatchOption held ((decoded : Decoded) → Decodes arrival.link arrival.bytes decoded → 0 ≡ worker_by_flow 1 decoded) (λ why. ◌≡◌ {A = ℕ} 0 0)
    by_held None = λ decoded is. only_by_flow decoded
    by_held (Some why) = refl

pub only_workers : (spread : Spread) (first : ℕ) (packets : List Packet) →
    AllZip (λ (job : Job) worker. IsWorkerOf spread 1 (job_arrival job) worker) (numbered_from first packets) (replicate (length packets) 0)
only_workers spread first [] = tt
only_workers spread first (packet ∷ packets) = (only_worker spread (job_arrival (record { number = first; packet = packet })), only_workers spread (first + 1) packets)
