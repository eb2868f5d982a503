-- A packet of which the headers say the same still decodes, whatever it carries then.
use Rattle.std.proofs.Common.{◌≡◌, ℕ, ◌+◌, ◌/◌, ◌<◌, Bool, true, false, List, length, Ok, Err, refl, sym, ap, ◌∙◌, subst, arith}
use Rattle.std.{proofs.lemmas.Bool.Decides.nat_tests, specs.Prelude.{Result, MatchResult, ◌==◌, nat_lt, if◌then◌else◌, slice_index}}
use Rattle.npf_fields.specs.Field.{number16}
use Rattle.npf_types.specs.declared.{facts.Facts.Facts, link.Link.{Link, TheVariants.{Ethernet, Raw}}}
use Rattle.npf_packet.specs.{declared.decoded.Decoded.{Decoded, TheVariants.Ip}, Chain.IsChain}
use Rattle.npf_packet.specs.{Decoder.{Decodes, DecodesIp, IsPacket, packet_at, version_behind}, Ipv4.packet_v4}
use Rattle.npf_packet.specs.{Ipv6.{IsBehindChain, IsPacketV6, behind_last, end_v6, first_header, is_extension, next_header}, Upper.Carries}
use Rattle.npf_packet.proofs.HeaderLemmas.{fields_v6, never_behind_v6, never_end_v6, of_ok}
use Rattle.npf_rewrite.proofs.HeaderLemmas.{behind_last-is}

pub behind_last-ok : (bytes : List ℕ) (ip end k n a : ℕ) (packet : _)
    → behind_last bytes ip end (record { kind = k; named_at = n; at = a }) ≡ Ok packet
    → (is_extension k ≡ false) × ((k == 44) ≡ false)
behind_last-ok bytes ip end k n a packet h = (grind (arith, nat_tests), grind (arith, nat_tests))

same_ok : {T E : Type 0} {x y : T} → (let r : Result T E = Ok x in r) ≡ Ok y → x ≡ y
same_ok h = cc

module _ (bytes new : List ℕ) (facts is : Facts) (ip : ℕ) where
  -- how a packet of IPv4 comes to say this
  abbrev pub FromV4 : Type 0
  FromV4 =
      MatchResult (packet_v4 bytes ip) (λ packet. Carries bytes packet (Ip facts)) (λ answer. Ip facts ≡ answer)
      → MatchResult (packet_v4 new ip) (λ packet. Carries new packet (Ip is)) (λ answer. Ip is ≡ answer)

  -- how one of IPv6 does, by its last header
  abbrev pub FromV6 : Type 0
  FromV6 =
      (end k n a : ℕ) (headers : List _) → end_v6 bytes ip ≡ Ok end
      → is_extension k ≡ false → (k == 44) ≡ false
      → IsChain (next_header bytes end) (first_header bytes ip) headers (record { kind = k; named_at = n; at = a })
      → Carries bytes (fields_v6 bytes ip end (record { kind = k; named_at = n; at = a })) (Ip facts)
      → IsPacketV6 new ip (Ok (fields_v6 new ip end (record { kind = k; named_at = n; at = a })))
      × Carries new (fields_v6 new ip end (record { kind = k; named_at = n; at = a })) (Ip is)

  v4-decodes : FromV4 → (version : _)
      → ((b : List ℕ) (header : _) → IsPacket version b ip header → header ≡ packet_v4 b ip)
      → ((b : List ℕ) (header : _) → header ≡ packet_v4 b ip → IsPacket version b ip header)
      → DecodesIp version bytes ip (Ip facts) → DecodesIp version new ip (Ip is)
  v4-decodes from version read reads h = record {
    header = packet_v4 new ip;
    read = reads new (packet_v4 new ip) refl;
    says = from (subst (λ r. MatchResult r (λ packet. Carries bytes packet (Ip facts)) (λ answer. Ip facts ≡ answer))
        (read bytes h.header h.read) h.says);
  }

  v6-decodes : FromV6 → (version : _)
      → ((b : List ℕ) (header : _) → IsPacket version b ip header → IsPacketV6 b ip header)
      → ((b : List ℕ) (header : _) → IsPacketV6 b ip header → IsPacket version b ip header)
      → DecodesIp version bytes ip (Ip facts) → DecodesIp version new ip (Ip is)
  v6-decodes from version read reads h =
      let found = of_ok (end_v6 bytes ip) (λ end. IsBehindChain bytes ip end h.header)
      (λ answer. h.header ≡ Err answer)
      (λ answer e same. never_end_v6 bytes ip facts (e ∙ ap (λ a. Err a) (sym
      (subst (λ r. MatchResult r (λ packet. Carries bytes packet (Ip facts)) (λ answer. Ip facts ≡ answer))
      same h.says))))
      (read bytes h.header h.read) in
      let end = found.0 in
      let behind = found.1.1 in
      let last = behind.last in
      let packet = of_ok h.header (λ packet. Carries bytes packet (Ip facts))
      (λ answer. Ip facts ≡ answer)
      (λ answer e same. never_behind_v6 bytes ip end last facts
      (sym behind.says ∙ e ∙ ap (λ a. Err a) (sym same))) h.says in
      let is_ok = sym behind.says ∙ packet.1.0 in
      let ok = behind_last-ok bytes ip end last.kind last.named_at last.at packet.0 is_ok in
      let same = same_ok (sym (behind_last-is bytes ip end last.kind last.named_at last.at ok.0 ok.1) ∙ is_ok) in
      let there = from end last.kind last.named_at last.at behind.chain.headers found.1.0 ok.0 ok.1 behind.chain.chain
      (subst (λ packet. Carries bytes packet (Ip facts)) (sym same) packet.1.1) in
      record {
        header = Ok (fields_v6 new ip end last);
        read = reads new (Ok (fields_v6 new ip end last)) there.0;
        says = there.1;
      }

-- the version behind the link's header, by its tests
module _ {V : Type 0} (P P' : V → Type 0) (facts is : Facts) where
  abbrev Goes : Result V Decoded → Type 0
  Goes r = MatchResult r P (λ answer. Ip facts ≡ answer) → MatchResult r P' (λ answer. Ip is ≡ answer)

  either : (b : Bool) (r s : Result V Decoded) → Goes r → Goes s → Goes (if b then r else s)
  either true r s one two = one
  either false r s one two = two

module _ (bytes new : List ℕ) (facts is : Facts) where
  versions : (link : Link) → FromV4 bytes new facts is (packet_at link) → FromV6 bytes new facts is (packet_at link)
      → MatchResult (version_behind link bytes)
      (λ version. DecodesIp version bytes (packet_at link) (Ip facts)) (λ answer. Ip facts ≡ answer)
      → MatchResult (version_behind link bytes)
      (λ version. DecodesIp version new (packet_at link) (Ip is)) (λ answer. Ip is ≡ answer)
  versions Raw four six =
      either _ _ facts is (length bytes == 0) _ _ (λ h. absurd (cc))
      (either _ _ facts is (slice_index bytes 0 / 16 == 4) _ _
      (v4-decodes bytes new facts is 0 four _ (λ b header e. e) (λ b header e. e))
      (either _ _ facts is (slice_index bytes 0 / 16 == 6) _ _
      (v6-decodes bytes new facts is 0 six _ (λ b header e. e) (λ b header e. e))
      (λ h. absurd (cc))))
  versions Ethernet four six =
      either _ _ facts is (nat_lt (length bytes) 14) _ _ (λ h. absurd (cc))
      (either _ _ facts is (number16 bytes 12 == 0x0800) _ _
      (either _ _ facts is (length bytes == 14) _ _ (λ h. absurd (cc))
      (either _ _ facts is (slice_index bytes 14 / 16 == 4) _ _
      (v4-decodes bytes new facts is 14 four _ (λ b header e. e) (λ b header e. e))
      (λ h. absurd (cc))))
      (either _ _ facts is (number16 bytes 12 == 0x86dd) _ _
      (either _ _ facts is (length bytes == 14) _ _ (λ h. absurd (cc))
      (either _ _ facts is (slice_index bytes 14 / 16 == 6) _ _
      (v6-decodes bytes new facts is 14 six _ (λ b header e. e) (λ b header e. e))
      (λ h. absurd (cc))))
      (λ h. absurd (cc))))

version-same : (link : Link) (bytes new : List ℕ) → length new ≡ length bytes
    → ((k : ℕ) → k < packet_at link + 6 → slice_index new k ≡ slice_index bytes k)
    → version_behind link new ≡ version_behind link bytes
version-same Raw bytes new size front = let first = front 0 (omega arith) in cc
version-same Ethernet bytes new size front =
    let upper = front 12 (omega arith) in
    let lower = front 13 (omega arith) in
    let first = front 14 (omega arith) in
    cc

-- so a record decodes whose first bytes are as they were
pub decodes-there : (link : Link) (bytes new : List ℕ) (facts is : Facts) → length new ≡ length bytes
    → ((k : ℕ) → k < packet_at link + 6 → slice_index new k ≡ slice_index bytes k)
    → FromV4 bytes new facts is (packet_at link) → FromV6 bytes new facts is (packet_at link)
    → Decodes link bytes (Ip facts) → Decodes link new (Ip is)
decodes-there link bytes new facts is size front four six decodes =
    rw (version-same link bytes new size front) (versions bytes new facts is link four six decodes)
