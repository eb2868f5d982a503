-- The generated records, one by one.
use Rattle.std.proofs.Common.{◌≡◌, ℕ, zero, suc, ◌+◌, ◌*◌, ◌^◌, ◌<◌, ◌∙◌, sym, ap, refl, List, [], ◌∷◌, ◌++◌, length, length-append, arith, All}
use Rattle.std.{proofs.lemmas.List.{flat_map_more, Elements.{All-nil, All-push}}, specs.List.flat_map}
use Rattle.npf_pcap.specs.{declared.capture.Record.Record, Spelling.{header_bytes, record_bytes, capture_bytes, FitsCapture}}
use Rattle.npf_gen.{specs.{Workload.{generated_records, nth_record, nth_datagram}, WorkloadLaw.HasSums}, proofs.DatagramLemmas.{ipv4_verifies, udp_verifies}}

-- one packet more
one_more : (number n m : ℕ) → m ≡ suc n → generated_records number m ≡ generated_records number n ++ nth_record number m ∷ []
unfolding generated_records
one_more number n m e = rw e refl

pub capture_more : (number i : ℕ) (r : Record) (old now : List ℕ) → old ≡ capture_bytes (generated_records number i)
    → r ≡ nth_record number (i + 1) → now ≡ old ++ record_bytes r → now ≡ capture_bytes (generated_records number (i + 1))
capture_more number i r old now before is written =
    written ∙ ap (λ (b : List ℕ). b ++ record_bytes r) before ∙ flat_map_more record_bytes header_bytes (generated_records number i) r
    ∙ ap (λ (x : Record). header_bytes ++ flat_map record_bytes (generated_records number i ++ x ∷ [])) is
    ∙ ap (λ (rs : List Record). header_bytes ++ flat_map record_bytes rs) (sym (one_more number i (i + 1) (omega arith)))

pub no_records : (number : ℕ) → generated_records number 0 ≡ []
unfolding generated_records
no_records number = refl

-- 44 bytes each
pub records_length : (number n : ℕ) → length (flat_map record_bytes (generated_records number n)) ≡ 44 * n
unfolding generated_records
records_length number zero = refl
records_length number (suc n) =
    let before = generated_records number n in
    let r = nth_record number (suc n) in
    ap length (sym (flat_map_more record_bytes [] before r)) ∙ length-append (flat_map record_bytes before) (record_bytes r)
    ∙ omega (arith, records_length number n)

fits : (number i : ℕ) → i < 2 ^ 32 → FitsCapture (nth_record number i)
fits number i below = record { short = omega arith; time = omega (arith, below) }

pub records_fit : (number n : ℕ) → n < 2 ^ 32 → All FitsCapture (generated_records number n)
unfolding generated_records
records_fit number zero below = All-nil FitsCapture
records_fit number (suc n) below =
    All-push FitsCapture (generated_records number n) (nth_record number (suc n)) (records_fit number n (omega arith)) (fits number (suc n) below)

has_sums : (number i : ℕ) → HasSums (nth_record number i)
has_sums number i =
    let d = nth_datagram number i in record {
      header = ipv4_verifies d (omega arith) (omega arith) (omega arith) (omega arith);
      upper = udp_verifies d (omega arith) (omega arith) (omega arith) (omega arith);
    }

pub records_have_sums : (number n : ℕ) → All HasSums (generated_records number n)
unfolding generated_records
records_have_sums number zero = All-nil HasSums
records_have_sums number (suc n) =
    All-push HasSums (generated_records number n) (nth_record number (suc n)) (records_have_sums number n) (has_sums number (suc n))
