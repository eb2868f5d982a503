-- The numbers of a worker's packets, one by one.
use Rattle.std.proofs.{Common.{◌≡◌, ℕ, ◌<◌, ◌^◌, List, [], ◌∷◌, All, get_or, length, sym, subst, arith, suc, zero}, lemmas.List.get_or_default}
use Rattle.std.proofs.lemmas.List.{Elements.{All-head, All-tail}, FromFn.get_or-range_with_len}
use Rattle.npf_traffic.specs.declared.packet.Packet.{Packet}
use Rattle.npf_runner.specs.{declared.{numbers.Numbers.{Numbers, TheVariants.{From, Listed}}, worker.Worker.Worker}, Crew.{HasJobs, numbers_of_worker}}
use Rattle.npf_runner.specs.{Job.{IsJob, with_numbers}, Numbers.{IsNumberedAt, packet_number, packet_numbers}}

pub number_at_place : (numbers : Numbers) (packets i d : ℕ) → i < packets → i < length (packet_numbers numbers packets) → packet_number numbers i ≡ get_or (packet_numbers numbers packets) i d
number_at_place (From first) packets i d low has = sym (get_or-range_with_len first packets i d low)
number_at_place (Listed numbers) packets i d low has = get_or_default numbers.items i 0 d has

number_fits : (numbers : List ℕ) (packets : List Packet) (i d : ℕ) → i < length numbers → i < length packets → All IsJob (with_numbers numbers packets) → get_or numbers i d < 2 ^ 64
number_fits [] packets i d low has jobs = absurd (omega (arith, low))
number_fits (n ∷ numbers) [] i d low has jobs = absurd (omega (arith, has))
number_fits (n ∷ numbers) (p ∷ packets) zero d low has jobs =
    (All-head IsJob (record { number = n; packet = p }) (with_numbers numbers packets) jobs).fits
number_fits (n ∷ numbers) (p ∷ packets) (suc i) d low has jobs =
    number_fits numbers packets i d (omega (arith, low)) (omega (arith, has)) (All-tail IsJob (record { number = n; packet = p }) (with_numbers numbers packets) jobs)

module _ (numbers : Numbers) (packets : List Packet) (i : ℕ) (low : i < length packets) (size : length (packet_numbers numbers (length packets)) ≡ length packets)
    (jobs : All IsJob (with_numbers (packet_numbers numbers (length packets)) packets)) where
  has_low : i < length (packet_numbers numbers (length packets))
  has_low = omega (arith, size, low)

  fits_at : packet_number numbers i < 2 ^ 64
  fits_at = subst (λ n. n < 2 ^ 64) (sym (number_at_place numbers (length packets) i 0 low has_low))
      (number_fits (packet_numbers numbers (length packets)) packets i 0 has_low low jobs)

-- each packet of a worker that has its jobs has a number
pub numbered_at : (numbers : Numbers) (packets : List Packet) (i : ℕ) → i < length packets → length (packet_numbers numbers (length packets)) ≡ length packets →
    All IsJob (with_numbers (packet_numbers numbers (length packets)) packets) → IsNumberedAt numbers i
numbered_at (From first) packets i low size jobs = fits_at (From first) packets i low size jobs
numbered_at (Listed numbers) packets i low size jobs = omega (arith, size, low)
