-- The headers of IP in a translated packet.
use Rattle.std.proofs.{Common.{◌≡◌, ℕ, ◌+◌, ◌<◌, ◌≤◌, false, List, length, Ok, Err, sym, ◌∙◌, subst, arith}, lemmas.Bool.Decides.nat_tests}
use Rattle.std.specs.Prelude.{MatchResult, ◌==◌, slice_index}
use Rattle.npf_fields.specs.Field.{number32}
use Rattle.npf_types.specs.declared.{address.Addr.{Addr, TheVariants.V4}, change.Change.Change, facts.{Facts.Facts, L4.L4}}
use Rattle.npf_key.specs.Translated.{address_there, facts_there, fitting}
use Rattle.npf_packet.specs.{declared.decoded.Decoded.TheVariants.Ip, Chain.IsChain, Ipv4.{fields_v4, header_len, is_fragment, packet_v4, total_len, whole_v4}}
use Rattle.npf_packet.specs.{Ipv6.{IsBehindChain, IsPacketV6, behind_last, end_v6, first_header, is_extension, next_header}, Packet.facts_of}
use Rattle.npf_packet.{specs.{PacketField.HasProtocol, Upper.Carries}, proofs.HeaderLemmas.{fields_v6, no_fragment, when_whole}}
use Rattle.npf_rewrite.{specs.{Translated.Translated, TranslatedFacts.AddressesFit}, proofs.AddressLemmas.address-there}
use Rattle.npf_rewrite.proofs.{CarriesLemmas.{carries-there, match_ok}, ChainLemmas.headers-stay}
use Rattle.npf_rewrite.proofs.PlacedLemmas.{destination-there, front-same, options-same, source-there}

-- the headers of IP
module _ (bytes translated : List ℕ) (ip : ℕ) (size : length translated ≡ length bytes)
    (front : (k : ℕ) → k < ip + 8 → slice_index translated k ≡ slice_index bytes k) where
  packet_v4-stays : (slice_index translated (ip + 9) ≡ slice_index bytes (ip + 9))
      → packet_v4 bytes ip ≡ Ok (fields_v4 bytes ip)
      → packet_v4 translated ip ≡ Ok (fields_v4 translated ip)
  packet_v4-stays protocol h =
      let first = front ip (omega arith) in
      let two = front (ip + 2) (omega arith) in
      let three = front (ip + 2 + 1) (omega arith) in
      let six = front (ip + 6) (omega arith) in
      let seven = front (ip + 6 + 1) (omega arith) in
      let read = no_fragment bytes ip (fields_v4 bytes ip) h in
      let is = read.is in
      let rest = read.rest in
      let whole : whole_v4 translated ip ≡ Ok (fields_v4 translated ip) = grind (arith, nat_tests) in
      let part : is_fragment translated ip ≡ false = cc in
      when_whole translated ip (whole_v4 translated ip) (fields_v4 translated ip) whole part

  fields_v4-are : (src dst : Addr) → V4 (number32 translated (ip + 12)) ≡ src
      → V4 (number32 translated (ip + 16)) ≡ dst
      → slice_index translated (ip + 9) ≡ slice_index bytes (ip + 9)
      → fields_v4 translated ip ≡ record {
        src = src;
        dst = dst;
        proto = slice_index bytes (ip + 9);
        ip_at = ip;
        l4_at = ip + header_len bytes ip;
        end = ip + total_len bytes ip;
      }
  fields_v4-are src dst source destination protocol =
      let first = front ip (omega arith) in
      let two = front (ip + 2) (omega arith) in
      let three = front (ip + 2 + 1) (omega arith) in
      cc

  end_v6-same : end_v6 translated ip ≡ end_v6 bytes ip
  end_v6-same =
      let upper = front (ip + 4) (omega arith) in
      let lower = front (ip + 4 + 1) (omega arith) in
      cc

  first_header-same : first_header translated ip ≡ first_header bytes ip
  first_header-same = let kind = front (ip + 6) (omega arith) in cc

pub behind_last-is : (bytes : List ℕ) (ip end k n a : ℕ) → is_extension k ≡ false → (k == 44) ≡ false
    → behind_last bytes ip end (record { kind = k; named_at = n; at = a })
    ≡ Ok (fields_v6 bytes ip end (record { kind = k; named_at = n; at = a }))
behind_last-is bytes ip end k n a plain whole = cc

module _ (bytes translated : List ℕ) (ip : ℕ) (change : Change) (l4 : L4) where
  abbrev facts4 : Facts
  facts4 = facts_of (fields_v4 bytes ip) l4

  pub decoded-v4 : packet_v4 bytes ip ≡ Ok (fields_v4 bytes ip) → 20 ≤ header_len bytes ip
      → HasProtocol facts4.src facts4.proto l4
      → Carries bytes (fields_v4 bytes ip) (Ip facts4) → AddressesFit facts4 change
      → Translated bytes facts4 change translated
      → MatchResult (packet_v4 translated ip)
      (λ packet. Carries translated packet (Ip (facts_there change facts4)))
      (λ answer. Ip (facts_there change facts4) ≡ answer)
  decoded-v4 is long protocol carries fit t =
      let above : ip + 20 ≤ facts4.l4_at = omega arith in
      let front = front-same bytes translated facts4 change above t in
      let nine = front (ip + 9) (omega arith) in
      let header = packet_v4-stays bytes translated ip t.size (λ k below. front k (omega arith)) nine is in
      let src = address-there bytes translated (ip + 12) facts4.src change.src fit.src
      (source-there bytes translated facts4 change above t) in
      let dst = address-there bytes translated (ip + 16) facts4.src change.dst fit.dst
      (destination-there bytes translated facts4 change above t) in
      let same = fields_v4-are bytes translated ip t.size (λ k below. front k (omega arith)) _ _ src dst nine
      in
      match_ok (packet_v4 translated ip)
      (λ packet. Carries translated packet (Ip (facts_there change facts4)))
      (λ answer. Ip (facts_there change facts4) ≡ answer) (fields_v4 translated ip) header
      (subst (λ packet. Carries translated packet (Ip (facts_there change facts4))) (sym same)
      (carries-there bytes translated change facts4.src facts4.dst facts4.proto ip facts4.l4_at
      facts4.end above l4 protocol t carries))

module _ (bytes translated : List ℕ) (ip end k n a : ℕ) (change : Change) (l4 : L4) where
  abbrev facts6 : Facts
  facts6 = facts_of (fields_v6 bytes ip end (record { kind = k; named_at = n; at = a })) l4

  pub decoded-v6 : ip + 40 ≤ a → HasProtocol facts6.src facts6.proto l4
      → end_v6 bytes ip ≡ Ok end → is_extension k ≡ false → (k == 44) ≡ false
      → (headers : List _)
      → IsChain (next_header bytes end) (first_header bytes ip) headers (record { kind = k; named_at = n; at = a })
      → Carries bytes (fields_v6 bytes ip end (record { kind = k; named_at = n; at = a })) (Ip facts6)
      → AddressesFit facts6 change → Translated bytes facts6 change translated
      → IsPacketV6 translated ip (Ok (fields_v6 translated ip end (record { kind = k; named_at = n; at = a })))
      × Carries translated (fields_v6 translated ip end (record { kind = k; named_at = n; at = a }))
      (Ip (facts_there change facts6))
  decoded-v6 above protocol ends plain whole headers chain carries fit t =
      let front = front-same bytes translated facts6 change above t in
      let stays = headers-stay bytes translated end (ip + 40) (first_header bytes ip)
      (record { kind = k; named_at = n; at = a }) headers chain plain (omega arith)
      (options-same bytes translated facts6 change above t) in
      let first = first_header-same bytes translated ip t.size front in
      let src = address-there bytes translated (ip + 8) facts6.src change.src fit.src
      (source-there bytes translated facts6 change above t) in
      let dst = address-there bytes translated (ip + 24) facts6.src change.dst fit.dst
      (destination-there bytes translated facts6 change above t) in
      let same : fields_v6 translated ip end (record { kind = k; named_at = n; at = a }) ≡ record {
        src = address_there (fitting facts6.src change.src) facts6.src;
        dst = address_there (fitting facts6.src change.dst) facts6.dst;
        proto = k;
        ip_at = ip;
        l4_at = a;
        end = end;
      } = cc in (
        match_ok (end_v6 translated ip)
            (λ e. IsBehindChain translated ip e (Ok (fields_v6 translated ip end (record { kind = k; named_at = n; at = a }))))
            (λ answer. Ok (fields_v6 translated ip end (record { kind = k; named_at = n; at = a })) ≡ Err answer) end
            (end_v6-same bytes translated ip t.size front ∙ ends)
            (record {
              last = record { kind = k; named_at = n; at = a };
              chain = record {
                headers = headers;
                chain = subst (λ h. IsChain (next_header translated end) h headers (record { kind = k; named_at = n; at = a }))
                    (sym first) stays.1;
              };
              says = sym (behind_last-is translated ip end k n a plain whole);
            }),
        subst (λ packet. Carries translated packet (Ip (facts_there change facts6))) (sym same)
            (carries-there bytes translated change facts6.src facts6.dst facts6.proto ip facts6.l4_at
            facts6.end above l4 protocol t carries),
      )
