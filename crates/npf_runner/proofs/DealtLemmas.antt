-- Packets that are dealt to workers, with their numbers.
use Rattle.std.proofs.Common.{◌≡◌, ℕ, ◌==◌, ◌≤◌, ◌<◌, ◌+◌, ◌^◌, Bool, true, false, List, [], ◌∷◌, All, cond, map, get_or, length, refl, sym, ap, subst, ◌∙◌, arith, suc, zero}
use Rattle.std.{specs.List.range_with_len, proofs.lemmas.List.length-map}
use Rattle.npf_runner_dealing.{specs.Lanes.{of_lane, IsDealt}, proofs.LaneLemmas.get_or-map}
use Rattle.npf_traffic.specs.{declared.packet.Packet.Packet, Packet.IsShortPacket}
use Rattle.npf_runner.specs.{declared.worker.Worker.Worker, Crew.{HasJobs, numbers_of_worker, packets_of_worker, jobs_of}}
use Rattle.npf_runner.{specs.Job.{Job, IsJob, with_numbers, numbered_from}, proofs.{JobLemmas.{jobs_numbered, numbered_length}, RegatherLemmas.All-dealt}}
use Rattle.npf_runner.proofs.TaskLemmas.{All-unmap}

-- a lane's numbers are those of its packets
abbrev IsNumbered : List ℕ → List Packet → List Job → Type 0
IsNumbered numbers packets jobs = (with_numbers numbers packets ≡ jobs) × (length numbers ≡ length packets)

lane_numbered : (w : ℕ) (order : List ℕ) (first : ℕ) (packets : List Packet) →
    IsNumbered (of_lane w order (range_with_len first (length packets))) (of_lane w order packets) (of_lane w order (numbered_from first packets))
lane_numbered w [] first packets = (refl, refl)
lane_numbered w (v ∷ order) first [] = (refl, refl)
lane_numbered w (v ∷ order) first (packet ∷ packets) =
    by_test (v == w) (of_lane w order (range_with_len (first + 1) (length packets))) (of_lane w order packets)
    (of_lane w order (numbered_from (first + 1) packets)) (lane_numbered w order (first + 1) packets)
  where
    by_test : (test : Bool) (ns : List ℕ) (ps : List Packet) (jobs : List Job) → IsNumbered ns ps jobs →
        IsNumbered (cond test (first ∷ ns) ns) (cond test (packet ∷ ps) ps) (cond test (record { number = first; packet = packet } ∷ jobs) jobs)
    by_test true ns ps jobs rest = (ap (λ js. record { number = first; packet = packet } ∷ js) rest.0, ap suc rest.1)
    by_test false ns ps jobs rest = rest

jobs_at : (crew : List Worker) (w : ℕ) (d : List Job) → w < length crew →
    get_or (map jobs_of crew) w d ≡ with_numbers (get_or (map numbers_of_worker crew) w []) (get_or (map packets_of_worker crew) w [])
jobs_at [] w d low = absurd (omega (arith, low))
jobs_at (worker ∷ crew) zero d low = refl
jobs_at (worker ∷ crew) (suc w) d low = jobs_at crew w d (omega (arith, low))

module _ (order : List ℕ) (first : ℕ) (packets : List Packet) (numbers : List ℕ) (are : numbers ≡ range_with_len first (length packets)) (crew : List Worker)
    (numbers_dealt : IsDealt order numbers (map numbers_of_worker crew)) (dealt : IsDealt order packets (map packets_of_worker crew)) where
  numbers_at : (w : ℕ) → w < length crew → get_or (map numbers_of_worker crew) w [] ≡ of_lane w order (range_with_len first (length packets))
  numbers_at w low = numbers_dealt.each w [] (rw (length-map crew numbers_of_worker) low) ∙ ap (of_lane w order) are

  packets_at : (w : ℕ) → w < length crew → get_or (map packets_of_worker crew) w [] ≡ of_lane w order packets
  packets_at w low = dealt.each w [] (rw (length-map crew packets_of_worker) low)

  dealt_jobs : IsDealt order (numbered_from first packets) (map jobs_of crew)
  dealt_jobs = record {
    count = numbered_length first packets ∙ dealt.count;
    fits = subst (λ n. All (λ lane. lane < n) order) (length-map crew packets_of_worker ∙ sym (length-map crew jobs_of)) dealt.fits;
    each = each;
  }
    where
      each : (w : ℕ) (d : List Job) → w < length (map jobs_of crew) → get_or (map jobs_of crew) w d ≡ of_lane w order (numbered_from first packets)
      each w d low' =
          let low : w < length crew = subst (λ n. w < n) (length-map crew jobs_of) low' in
          jobs_at crew w d low
          ∙ (ap (λ ns. with_numbers ns (get_or (map packets_of_worker crew) w [])) (numbers_at w low)
          ∙ (ap (λ ps. with_numbers (of_lane w order (range_with_len first (length packets))) ps) (packets_at w low) ∙ (lane_numbered w order first packets).0))

  have_jobs : 1 ≤ first → first + length packets < 2 ^ 64 → All IsShortPacket packets → All HasJobs crew
  have_jobs some few short w d low = record {
    same_length =
        ap length (sym (get_or-map numbers_of_worker crew w d [] low) ∙ numbers_at w low)
        ∙ ((lane_numbered w order first packets).1 ∙ ap length (sym (packets_at w low) ∙ get_or-map packets_of_worker crew w d [] low));
    each = All-unmap (λ lane. All IsJob lane) jobs_of crew
        (All-dealt IsJob order (numbered_from first packets) (map jobs_of crew) dealt_jobs (jobs_numbered first packets some few short)) w d low;
  }

  pub jobs_dealt : 1 ≤ first → first + length packets < 2 ^ 64 → All IsShortPacket packets → IsDealt order (numbered_from first packets) (map jobs_of crew) × All HasJobs crew
  jobs_dealt some few short = (dealt_jobs, have_jobs some few short)
