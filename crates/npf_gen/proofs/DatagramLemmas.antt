-- The sums of a datagram verify.
use Rattle.std.{proofs.Common.{◌≡◌, ℕ, ◌+◌, ◌*◌, ◌/◌, ◌%◌, ◌^◌, ◌<◌, ◌==◌, if◌then◌else◌, ◌++◌, ◌∙◌, ap, take, drop, arith}, specs.Prelude.sum}
use Rattle.npf_fields.specs.Checksum.{complement16, end_around}
use Rattle.npf_gen.specs.declared.datagram.Datagram.{Datagram}
use Rattle.npf_gen.specs.Datagram.{ipv4_words, udp_words, pseudo_words, word_bytes, halves, internet_sum, ipv4_sum, udp_sum, datagram_bytes}
use Rattle.npf_gen.specs.WorkloadLaw.{summed_words}

-- the bytes of a word make it
both_bytes : (w : ℕ) → w < 2 ^ 16 → 2 ^ 8 * (w / 256 % 256) + w % 256 ≡ w
both_bytes w small = omega (arith, small)

-- a total with its checksum is a multiple of 65,535
completed : (t : ℕ) → t < 2 ^ 20 → (t + complement16 (end_around t)) % 65535 ≡ 0
completed t small = omega (arith, small)

-- also where 0xFFFF stands for 0
completed_nonzero : (t s : ℕ) → (t + s) % 65535 ≡ 0 → (t + (if s == 0 then 0xffff else s)) % 65535 ≡ 0
completed_nonzero t s e = grind (arith, e)

small_sum : (t : ℕ) → complement16 (end_around t) < 2 ^ 16
small_sum t = omega arith

small_nonzero : (s : ℕ) → s < 2 ^ 16 → (if s == 0 then 0xffff else s) < 2 ^ 16
small_nonzero s small = grind (arith, small)

module _ (d : Datagram) (src : d.src < 2 ^ 32) (dst : d.dst < 2 ^ 32) (sport : d.sport < 2 ^ 16) (dport : d.dport < 2 ^ 16) where
  upper_small : (a : ℕ) → a < 2 ^ 32 → a / 2 ^ 16 < 2 ^ 16
  upper_small a small = omega (arith, small)

  lower_small : (a : ℕ) → a % 2 ^ 16 < 2 ^ 16
  lower_small a = omega arith

  -- the words of each header with a sum, read from its bytes
  ipv4_total : (s : ℕ) → s < 2 ^ 16 → summed_words (word_bytes (ipv4_words d s)) ≡ sum (ipv4_words d 0) + s
  ipv4_total s small =
      rw (
        both_bytes s small,
        both_bytes (d.src / 2 ^ 16) (upper_small d.src src),
        both_bytes (d.src % 2 ^ 16) (lower_small d.src),
        both_bytes (d.dst / 2 ^ 16) (upper_small d.dst dst),
        both_bytes (d.dst % 2 ^ 16) (lower_small d.dst),
      ) (omega arith)

  udp_total : (s : ℕ) → s < 2 ^ 16
      → summed_words (word_bytes (halves d.src ++ halves d.dst) ++ word_bytes (udp_words d s)) + 17 + 8
      ≡ sum (pseudo_words d ++ udp_words d 0) + s
  udp_total s small =
      rw (
        both_bytes s small,
        both_bytes (d.src / 2 ^ 16) (upper_small d.src src),
        both_bytes (d.src % 2 ^ 16) (lower_small d.src),
        both_bytes (d.dst / 2 ^ 16) (upper_small d.dst dst),
        both_bytes (d.dst % 2 ^ 16) (lower_small d.dst),
        both_bytes d.sport sport,
        both_bytes d.dport dport,
      ) (omega arith)

  ipv4_bound : sum (ipv4_words d 0) < 2 ^ 20
  ipv4_bound = omega (arith, upper_small d.src src, lower_small d.src, upper_small d.dst dst, lower_small d.dst)

  udp_bound : sum (pseudo_words d ++ udp_words d 0) < 2 ^ 20
  udp_bound = omega (arith, upper_small d.src src, lower_small d.src, upper_small d.dst dst, lower_small d.dst, sport, dport)

  pub ipv4_verifies : summed_words (take 20 (datagram_bytes d)) % 65535 ≡ 0
  ipv4_verifies =
      ap (λ (t : ℕ). t % 65535) (ipv4_total (ipv4_sum d) (small_sum (sum (ipv4_words d 0)))) ∙ completed (sum (ipv4_words d 0)) ipv4_bound

  pub udp_verifies : (summed_words (drop 12 (datagram_bytes d)) + 17 + 8) % 65535 ≡ 0
  udp_verifies =
      let t = sum (pseudo_words d ++ udp_words d 0) in
      ap (λ (t : ℕ). t % 65535) (udp_total (udp_sum d) (small_nonzero (internet_sum (pseudo_words d ++ udp_words d 0)) (small_sum t)))
      ∙ completed_nonzero t (internet_sum (pseudo_words d ++ udp_words d 0)) (completed t udp_bound)
