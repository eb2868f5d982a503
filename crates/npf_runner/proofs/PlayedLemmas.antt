-- What became of packets, taken apart and put together.
use Rattle.std.{proofs.Common.{◌≡◌, ℕ, ◌<◌, ◌+◌, List, [], ◌∷◌, ◌++◌, map, set, length, vec_len, refl, sym, ap, ◌∙◌, arith, suc, zero}, specs.Global.Vec}
use Rattle.std.{specs.List.AllZip, proofs.lemmas.List.{length-append, length-map}}
use Rattle.npf_connections.specs.Pass.{Pass}
use Rattle.npf_runner_dealing.specs.Lanes.{queue_items}
use Rattle.npf_engine.specs.{declared.outcome.Outcome.Outcome, Histories.FlowEntry}
use Rattle.npf_model.specs.Configuration.{Configuration}
use Rattle.npf_runner.specs.{declared.{crew.Queues.Queues, worker.Lane.Lane}, Crew.{AreQueuesOf, done_of_lane, outcomes_of_lane, packets_of_lane}, Job.Handled}
use Rattle.npf_traffic.specs.declared.packet.Packet.{Packet}
use Rattle.npf_runner.specs.{Lanes.HasWorked, Played.{handled, outcomes_of, outputs_of}}

pub outcomes_of-handled : (outcomes : List Outcome) (packets : List Packet) → length outcomes ≡ length packets → outcomes_of (handled outcomes packets) ≡ outcomes
outcomes_of-handled [] packets n = refl
outcomes_of-handled (o ∷ outcomes) [] n = absurd (omega (arith, n))
outcomes_of-handled (o ∷ outcomes) (p ∷ packets) n = ap (λ os. o ∷ os) (outcomes_of-handled outcomes packets (omega (arith, n)))

pub outputs_of-handled : (outcomes : List Outcome) (packets : List Packet) → length outcomes ≡ length packets → outputs_of (handled outcomes packets) ≡ packets
outputs_of-handled [] [] n = refl
outputs_of-handled [] (p ∷ packets) n = absurd (omega (arith, n))
outputs_of-handled (o ∷ outcomes) [] n = absurd (omega (arith, n))
outputs_of-handled (o ∷ outcomes) (p ∷ packets) n = ap (λ ps. p ∷ ps) (outputs_of-handled outcomes packets (omega (arith, n)))

handled_all : (dones : List Handled) → handled (outcomes_of dones) (outputs_of dones) ≡ dones
handled_all [] = refl
handled_all (done ∷ dones) = ap (λ ds. done ∷ ds) (handled_all dones)

handled_both : (outcomes : List Outcome) (packets : List Packet) (dones : List Handled) → length outcomes ≡ length packets →
    handled (outcomes ++ outcomes_of dones) (packets ++ outputs_of dones) ≡ handled outcomes packets ++ dones
handled_both [] [] dones n = handled_all dones
handled_both [] (p ∷ packets) dones n = absurd (omega (arith, n))
handled_both (o ∷ outcomes) [] dones n = absurd (omega (arith, n))
handled_both (o ∷ outcomes) (p ∷ packets) dones n = ap (λ ds. record { outcome = o; packet = p } ∷ ds) (handled_both outcomes packets dones (omega (arith, n)))

-- more were handled
pub handled_more : (outcomes more_outcomes : List Outcome) (packets more_packets : List Packet) (dones : List Handled) → length outcomes ≡ length packets →
    more_outcomes ≡ outcomes ++ outcomes_of dones → more_packets ≡ packets ++ outputs_of dones → handled more_outcomes more_packets ≡ handled outcomes packets ++ dones
handled_more outcomes more_outcomes packets more_packets dones n come sent =
    ap (λ os. handled os more_packets) come ∙ (ap (λ ps. handled (outcomes ++ outcomes_of dones) ps) sent ∙ handled_both outcomes packets dones n)

-- one more was, and its packet stands where it stood
pub handled_at : (outcomes : List Outcome) (packets : List Packet) (i : ℕ) (outcome : Outcome) (packet : Packet) → length outcomes ≡ i → i < length packets →
    handled (outcomes ++ outcome ∷ []) (set packets i packet) ≡ handled outcomes packets ++ record { outcome = outcome; packet = packet } ∷ []
handled_at outcomes [] i outcome packet n low = absurd (omega (arith, low))
handled_at [] (p ∷ packets) zero outcome packet n low = refl
handled_at [] (p ∷ packets) (suc i) outcome packet n low = absurd (omega (arith, n))
handled_at (o ∷ outcomes) (p ∷ packets) zero outcome packet n low = absurd (omega (arith, n))
handled_at (o ∷ outcomes) (p ∷ packets) (suc i) outcome packet n low =
    ap (λ ds. record { outcome = o; packet = p } ∷ ds) (handled_at outcomes packets i outcome packet (omega (arith, n)) (omega (arith, low)))

pub more_length : {X : Type 0} (was now : Vec X) (part : Handled → X) (dones : List Handled) → now.items ≡ was.items ++ map part dones → vec_len now ≡ vec_len was + length dones
more_length was now part dones is =
    let longer : length now.items ≡ length was.items + length dones = ap length is ∙ (length-append was.items (map part dones) ∙ ap (λ n. length was.items + n) (length-map dones part)) in
    omega (arith, was.ok.0, now.ok.0, longer)

-- what workers have done, in two lists of queues
module _ {P : Type 0} (view : P → Pass FlowEntry) (configs : List Configuration) where
  outcomes_of_done : (begun ended : List (Lane P)) → AllZip (HasWorked view configs) begun ended → map outcomes_of_lane ended ≡ map outcomes_of (map done_of_lane ended)
  outcomes_of_done [] [] z = refl
  outcomes_of_done [] (e ∷ ended) z = absurd z
  outcomes_of_done (b ∷ begun) [] z = absurd z
  outcomes_of_done (b ∷ begun) (e ∷ ended) z =
      ap (λ os. outcomes_of_lane e ∷ os) (outcomes_of_done begun ended z.1)
      ∙ ap (λ os. os ∷ map outcomes_of (map done_of_lane ended)) (sym (outcomes_of-handled (outcomes_of_lane e) (packets_of_lane e) z.0.same_length))

  packets_of_done : (begun ended : List (Lane P)) → AllZip (HasWorked view configs) begun ended → map packets_of_lane ended ≡ map outputs_of (map done_of_lane ended)
  packets_of_done [] [] z = refl
  packets_of_done [] (e ∷ ended) z = absurd z
  packets_of_done (b ∷ begun) [] z = absurd z
  packets_of_done (b ∷ begun) (e ∷ ended) z =
      ap (λ ps. packets_of_lane e ∷ ps) (packets_of_done begun ended z.1)
      ∙ ap (λ ps. ps ∷ map outputs_of (map done_of_lane ended)) (sym (outputs_of-handled (outcomes_of_lane e) (packets_of_lane e) z.0.same_length))

  pub are_queues_of : (begun ended : List (Lane P)) (queues : Queues) → AllZip (HasWorked view configs) begun ended → map queue_items queues.outcomes.items ≡ map outcomes_of_lane ended →
      map queue_items queues.packets.items ≡ map packets_of_lane ended → AreQueuesOf (map done_of_lane ended) queues
  are_queues_of begun ended queues z outcomes packets = record { outcomes = outcomes ∙ outcomes_of_done begun ended z; packets = packets ∙ packets_of_done begun ended z }
