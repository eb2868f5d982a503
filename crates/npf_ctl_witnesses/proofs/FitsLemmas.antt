-- What is written of packets fits a capture.
use Rattle.std.proofs.Common.{◌<◌, ◌≤◌, ℕ, ◌+◌, List, [], ◌∷◌, get_or, length, arith}
use Rattle.std.{specs.{List.{enumerate_from, filter}, Prelude.All}, proofs.lemmas.List.{length-append, Elements.{All-cons, All-filter, All-map, All-nil}}}
use Rattle.npf_types.specs.declared.{address.Addr.{Addr, TheVariants.{V4, V6}}, facts.{Facts.Facts, L4.{L4, TheVariants.{Tcp, Udp, Icmp, Icmp6, Other}}}}
use Rattle.npf_types.specs.declared.link.Link.TheVariants.{Raw}
use Rattle.npf_model.specs.declared.iface.Iface.{Iface}
use Rattle.npf_pcap.{specs.{Capture.IsCapture, Spelling.{FitsCapture, capture_bytes}}, proofs.SpellingLemmas.written_is_capture}
use Rattle.npf_possible.specs.Witness.{address_bytes, carried_checksum, ip_header, upper_bytes, witness_bytes}
use Rattle.npf_products.specs.declared.packet.CellPacket.{CellPacket}
use Rattle.npf_ctl_witnesses.specs.WitnessFiles.{passes_with, records_of, witness_record}

address_size : (addr : Addr) → length (address_bytes addr) ≤ 16
address_size (V4 a) = omega arith
address_size (V6 a) = omega arith

length-upper : (l4 : L4) (sum : ℕ) → length (upper_bytes l4 sum) < 21
length-upper (Tcp sport dport segment mss_at) sum = omega arith
length-upper (Udp sport dport) sum = omega arith
length-upper (Icmp kind code echo) sum = omega arith
length-upper (Icmp6 kind code echo) sum = omega arith
length-upper Other sum = omega arith

header_size : (src : Addr) (facts : Facts) → length (ip_header src facts) ≤ 44
header_size (V4 a) facts =
    omega (arith, length-append (address_bytes facts.src) (address_bytes facts.dst), address_size facts.src, address_size facts.dst)
header_size (V6 a) facts =
    omega (arith, length-append (address_bytes facts.src) (address_bytes facts.dst), address_size facts.src, address_size facts.dst)

witness_size : (facts : Facts) → length (witness_bytes facts) ≤ 64
witness_size facts =
    let sum = carried_checksum facts facts.l4 in
    omega (arith, length-append (ip_header facts.src facts) (upper_bytes facts.l4 sum), header_size facts.src facts, length-upper facts.l4 sum)

numbers_within : {X : Type 0} (n most : ℕ) (xs : List X) → n + length xs ≤ most + 1 → All (λ (numbered : ℕ × X). numbered.0 ≤ most) (enumerate_from n xs)
numbers_within {X} n most [] fits = All-nil (λ (numbered : ℕ × X). numbered.0 ≤ most)
numbers_within {X} n most (x ∷ xs) fits =
    All-cons (λ (numbered : ℕ × X). numbered.0 ≤ most) (n, x) (enumerate_from (n + 1) xs) (omega arith) (numbers_within (n + 1) most xs (omega arith))

record_fits : (numbered : ℕ × CellPacket) → numbered.0 ≤ 256 → FitsCapture (witness_record numbered)
record_fits numbered few = record { short = omega (arith, witness_size numbered.1.facts); time = omega arith }

module _ (ifaces : List Iface) (packets : List CellPacket) (few : length packets ≤ 256) (one : CellPacket) where
  records_fit : All FitsCapture (records_of ifaces packets one)
  records_fit =
      All-map FitsCapture witness_record (filter (passes_with ifaces one) (enumerate_from 1 packets))
      (λ place d within. record_fits (get_or (filter (passes_with ifaces one) (enumerate_from 1 packets)) place d)
      (All-filter (passes_with ifaces one) (λ (numbered : ℕ × CellPacket). numbered.0 ≤ 256) (enumerate_from 1 packets)
      (numbers_within 1 256 packets (omega arith)) place d within))

  pub records_read : IsCapture (capture_bytes (records_of ifaces packets one)) Raw (records_of ifaces packets one)
  records_read = written_is_capture (records_of ifaces packets one) records_fit
