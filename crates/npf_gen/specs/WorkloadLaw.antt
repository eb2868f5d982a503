-- What holds of every generated capture.
use Rattle.std.specs.Prelude.{◌≡◌, ℕ, ◌+◌, ◌*◌, ◌%◌, ◌^◌, List, [], ◌∷◌, length, take, drop, All}
use Rattle.npf_types.specs.declared.link.Link.TheVariants.{Raw}
use Rattle.npf_pcap.specs.declared.capture.Record.{Record}
use Rattle.npf_pcap.specs.Capture.{IsCapture}
use Rattle.npf_pcap.specs.Spelling.{capture_bytes}
use Rattle.npf_gen.specs.Workload.{generated_records, packet_count}

-- 24 bytes and 44 for each packet
abbrev pub CaptureHasLength : Type 0
CaptureHasLength = (number : ℕ) → length (capture_bytes (generated_records number packet_count)) ≡ 880024

-- it is a capture of raw IP with these records
abbrev pub CaptureReadsAgain : Type 0
CaptureReadsAgain =
    (number : ℕ) → let records = generated_records number packet_count in IsCapture (capture_bytes records) Raw records

-- the sum of the words that bytes make, the higher byte of each first
abbrev pub summed_words : List ℕ → ℕ
summed_words [] = 0
summed_words (a ∷ []) = 0
summed_words (a ∷ b ∷ bytes) = 2 ^ 8 * a + b + summed_words bytes

-- The words of the header of IPv4, its sum with them, add up to a multiple of 65,535, which is 0 in one's complement (RFC 1071).
-- So do those of UDP, which are behind it, and its pseudo-header: the addresses, the protocol 17 and the length 8.
pub record HasSums (r : Record) : Type 0 where
  pub header : summed_words (take 20 r.bytes) % 65535 ≡ 0
  pub upper : (summed_words (drop 12 r.bytes) + 17 + 8) % 65535 ≡ 0

-- the sums of each packet
abbrev pub SumsVerify : Type 0
SumsVerify = (number n : ℕ) → All HasSums (generated_records number n)
