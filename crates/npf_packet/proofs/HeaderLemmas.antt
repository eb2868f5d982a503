-- What the IP headers say of a packet that was decoded.
use Rattle.std.proofs.{Common.{◌≡◌, ℕ, ◌+◌, ◌≤◌, true, false, Some, List, length, Ok, Err, refl, sym, ap, ◌∙◌, subst, arith}, lemmas.Bool.Decides.nat_tests}
use Rattle.std.specs.Prelude.{Result, MatchResult}
use Rattle.npf_fields.specs.Field.{number128}
use Rattle.npf_types.specs.declared.address.Addr.TheVariants as Addr
use Rattle.npf_types.specs.declared.{facts.Facts.Facts, link.Link.{Link, TheVariants.{Ethernet, Raw}}}
use Rattle.npf_packet.specs.declared.{decoded.Decoded.{Decoded, TheVariants.{Ip, Skip}}, ipv6.Header.Header, version.Version.{Version, TheVariants.{V4, V6}}}
use Rattle.npf_packet.specs.{declared.packet.IpPacket.IpPacket, Decoder.{Decodes, DecodesIp, packet_at, version_behind}, Extent.told_end}
use Rattle.npf_packet.specs.{Field.{ipv6_source, ipv6_destination}, Ipv4.{packet_v4, whole_v4, unless_fragment, is_fragment, fields_v4, header_len, total_len}}
use Rattle.npf_packet.specs.{Ipv6.{IsPacketV6, IsBehindChain, behind_last, end_v6, first_header, next_header, payload_len}, PacketField.HasIpHeader}
use Rattle.npf_packet.{specs.{Place.least_ip_header, Upper.Carries, Version.version_number}, proofs.ChainLemmas.chain_keeps}

-- what holds of a result that isn't an error
pub of_ok : {T E : Type 0} (r : Result T E) (P : T → Type 0) (Q : E → Type 0)
    → ((e : E) → r ≡ Err e → ¬ Q e) → MatchResult r P Q → (x : T) × ((r ≡ Ok x) × P x)
of_ok (Ok x) P Q never h = (x, (refl, h))
of_ok (Err e) P Q never h = absurd (never e refl h)

same_err : {T E : Type 0} {x y : E} → (let r : Result T E = Err x in r) ≡ Err y → x ≡ y
same_err h = cc

-- a whole packet of IPv4
pub record IsWholeV4 (bytes : List ℕ) (ip_at : ℕ) (packet : IpPacket) : Type 0 where
  pub header : 20 ≤ header_len bytes ip_at
  pub total : header_len bytes ip_at ≤ total_len bytes ip_at
  pub whole : ip_at + total_len bytes ip_at ≤ length bytes
  pub is : fields_v4 bytes ip_at ≡ packet

-- what was read goes on unless it is a fragment, whose answer is no packet's facts
pub record GoesOn (bytes : List ℕ) (ip_at : ℕ) (whole : Result IpPacket Decoded) (packet : IpPacket) : Type 0 where
  pub is : whole ≡ Ok packet
  pub rest : is_fragment bytes ip_at ≡ false

goes_on : (bytes : List ℕ) (ip_at : ℕ) (whole : Result IpPacket Decoded) (packet : IpPacket)
    → unless_fragment bytes ip_at whole ≡ Ok packet → GoesOn bytes ip_at whole packet
goes_on bytes ip_at (Ok read) packet h = record { is = grind (arith, nat_tests); rest = grind (arith, nat_tests) }
goes_on bytes ip_at (Err answer) packet h = absurd (cc)

pub no_fragment : (bytes : List ℕ) (ip_at : ℕ) (packet : IpPacket)
    → packet_v4 bytes ip_at ≡ Ok packet → GoesOn bytes ip_at (whole_v4 bytes ip_at) packet
no_fragment bytes ip_at packet h = goes_on bytes ip_at (whole_v4 bytes ip_at) packet h

pub when_fragment : (bytes : List ℕ) (ip_at : ℕ) (whole : Result IpPacket Decoded) (packet : IpPacket)
    → whole ≡ Ok packet → is_fragment bytes ip_at ≡ true → unless_fragment bytes ip_at whole ≡ Err Skip
when_fragment bytes ip_at whole packet is part = rw is (rw part refl)

pub when_whole : (bytes : List ℕ) (ip_at : ℕ) (whole : Result IpPacket Decoded) (packet : IpPacket)
    → whole ≡ Ok packet → is_fragment bytes ip_at ≡ false → unless_fragment bytes ip_at whole ≡ Ok packet
when_whole bytes ip_at whole packet is rest = rw is (rw rest refl)

pub read_whole_v4 : (bytes : List ℕ) (ip_at : ℕ) (packet : IpPacket)
    → whole_v4 bytes ip_at ≡ Ok packet → IsWholeV4 bytes ip_at packet
read_whole_v4 bytes ip_at packet h = record {
  header = grind (arith, nat_tests);
  total = grind (arith, nat_tests);
  whole = grind (arith, nat_tests);
  is = grind (arith, nat_tests);
}

pub is_whole_v4 : (bytes : List ℕ) (ip_at : ℕ) (packet : IpPacket)
    → packet_v4 bytes ip_at ≡ Ok packet → IsWholeV4 bytes ip_at packet
is_whole_v4 bytes ip_at packet h = read_whole_v4 bytes ip_at packet (no_fragment bytes ip_at packet h).is

-- the version behind a link's header is that of the IP header
pub version_v4 : (link : Link) (bytes : List ℕ)
    → version_behind link bytes ≡ Ok V4 → version_number bytes (packet_at link) ≡ 4
version_v4 Raw bytes h = grind (arith, nat_tests)
version_v4 Ethernet bytes h = grind (arith, nat_tests)

pub version_v6 : (link : Link) (bytes : List ℕ)
    → version_behind link bytes ≡ Ok V6 → version_number bytes (packet_at link) ≡ 6
version_v6 Raw bytes h = grind (arith, nat_tests)
version_v6 Ethernet bytes h = grind (arith, nat_tests)

-- a header of the chain of IPv6 lies behind the first header and within the packet
pub record LiesBetween (from to : ℕ) (header : Header) : Type 0 where
  pub after : from ≤ header.at
  pub before : header.at ≤ to

next-between : (bytes : List ℕ) (from to : ℕ) (x y : Header)
    → LiesBetween from to x → next_header bytes to x ≡ Some y → LiesBetween from to y
next-between bytes from to x y here h = grind (arith, nat_tests)

-- a whole packet of IPv6, and its last header
pub record IsWholeV6 (bytes : List ℕ) (ip_at : ℕ) (packet : IpPacket) : Type 0 where
  pub last : Header
  pub end : ℕ
  pub told : ip_at + 40 + payload_len bytes ip_at ≡ end
  pub whole : end ≤ length bytes
  pub place : LiesBetween (ip_at + 40) end last
  pub is : behind_last bytes ip_at end last ≡ Ok packet

ends_v6 : (bytes : List ℕ) (ip_at end : ℕ)
    → end_v6 bytes ip_at ≡ Ok end
    → (ip_at + 40 + payload_len bytes ip_at ≡ end) × (end ≤ length bytes)
ends_v6 bytes ip_at end h = (grind (arith, nat_tests), grind (arith, nat_tests))

pub is_whole_v6 : (bytes : List ℕ) (ip_at : ℕ) (packet : IpPacket)
    → IsPacketV6 bytes ip_at (Ok packet) → IsWholeV6 bytes ip_at packet
is_whole_v6 bytes ip_at packet h =
    let found = of_ok (end_v6 bytes ip_at) (λ end. IsBehindChain bytes ip_at end (Ok packet))
    (λ answer. Ok packet ≡ Err answer) (λ answer e no. cc) h in
    let end = found.0 in
    let behind = found.1.1 in
    let ends = ends_v6 bytes ip_at end found.1.0 in
    record {
      last = behind.last;
      end = end;
      told = ends.0;
      whole = ends.1;
      place = chain_keeps (next_header bytes end) (LiesBetween (ip_at + 40) end)
          (next-between bytes (ip_at + 40) end) (first_header bytes ip_at) behind.chain.headers
          behind.last behind.chain.chain (record { after = omega arith; before = omega (arith, ends.0) });
      is = sym behind.says;
    }

-- the fields of a packet of IPv6, whose last header is this
abbrev pub fields_v6 : List ℕ → ℕ → ℕ → Header → IpPacket
fields_v6 bytes ip_at end last = record {
  src = Addr.V6 (number128 bytes (ip_at + ipv6_source));
  dst = Addr.V6 (number128 bytes (ip_at + ipv6_destination));
  proto = last.kind;
  ip_at = ip_at;
  l4_at = last.at;
  end = end;
}

behind_v6 : (bytes : List ℕ) (ip_at end : ℕ) (last : Header) (packet : IpPacket)
    → behind_last bytes ip_at end last ≡ Ok packet → fields_v6 bytes ip_at end last ≡ packet
behind_v6 bytes ip_at end last packet h = grind (arith, nat_tests)

-- what the IP headers of a record of this link say
pub record IsIpPacket (link : Link) (bytes : List ℕ) (packet : IpPacket) : Type 0 where
  pub ip : packet.ip_at ≡ packet_at link
  pub header : HasIpHeader bytes packet.ip_at packet.l4_at packet.proto packet.src packet.dst
  pub after : packet.ip_at + least_ip_header packet.src ≤ packet.l4_at
  pub before : packet.l4_at ≤ packet.end
  pub told : told_end bytes packet.ip_at ≡ packet.end
  pub end : packet.end ≤ length bytes

ip_packet_v4 : (link : Link) (bytes : List ℕ) (packet : IpPacket)
    → version_number bytes (packet_at link) ≡ 4
    → IsWholeV4 bytes (packet_at link) packet → IsIpPacket link bytes packet
ip_packet_v4 link bytes packet version whole = subst (IsIpPacket link bytes) whole.is (record {
  ip = refl;
  header = record {
    version = version;
    len = refl;
    protocol = refl;
    source = refl;
    destination =
        refl;
  };
  after = omega (arith, whole.header);
  before = omega (arith, whole.total);
  told = rw version refl;
  end = whole.whole;
})

ip_packet_v6 : (link : Link) (bytes : List ℕ) (packet : IpPacket)
    → version_number bytes (packet_at link) ≡ 6
    → IsWholeV6 bytes (packet_at link) packet → IsIpPacket link bytes packet
ip_packet_v6 link bytes packet version whole =
    let is = behind_v6 bytes (packet_at link) whole.end whole.last packet whole.is in
    subst (IsIpPacket link bytes) is (record {
      ip = refl;
      header = record { version = version; source = refl; destination = refl };
      after = whole.place.after;
      before = whole.place.before;
      told = rw version whole.told;
      end = whole.whole;
    })

-- no test of the headers answers with a packet's facts
never_version : (link : Link) (bytes : List ℕ) (facts : Facts)
    → ¬ (version_behind link bytes ≡ Err (Ip facts))
never_version Raw bytes facts = λ h. grind (arith, nat_tests)
never_version Ethernet bytes facts = λ h. grind (arith, nat_tests)

never_whole_v4 : (bytes : List ℕ) (ip_at : ℕ) (facts : Facts) → ¬ (whole_v4 bytes ip_at ≡ Err (Ip facts))
never_whole_v4 bytes ip_at facts = λ h. grind (arith, nat_tests)

never_goes_on : (bytes : List ℕ) (ip_at : ℕ) (whole : Result IpPacket Decoded) (facts : Facts)
    → ¬ (whole ≡ Err (Ip facts)) → ¬ (unless_fragment bytes ip_at whole ≡ Err (Ip facts))
never_goes_on bytes ip_at (Ok packet) facts never = λ h. grind (arith, nat_tests)
never_goes_on bytes ip_at (Err answer) facts never = never

pub never_v4 : (bytes : List ℕ) (ip_at : ℕ) (facts : Facts) → ¬ (packet_v4 bytes ip_at ≡ Err (Ip facts))
never_v4 bytes ip_at facts = never_goes_on bytes ip_at (whole_v4 bytes ip_at) facts (never_whole_v4 bytes ip_at facts)

pub never_end_v6 : (bytes : List ℕ) (ip_at : ℕ) (facts : Facts)
    → ¬ (end_v6 bytes ip_at ≡ Err (Ip facts))
never_end_v6 bytes ip_at facts = λ h. grind (arith, nat_tests)

pub never_behind_v6 : (bytes : List ℕ) (ip_at end : ℕ) (last : Header) (facts : Facts)
    → ¬ (behind_last bytes ip_at end last ≡ Err (Ip facts))
never_behind_v6 bytes ip_at end last facts = λ h. grind (arith, nat_tests)

never_v6 : (bytes : List ℕ) (ip_at : ℕ) (facts : Facts) → ¬ IsPacketV6 bytes ip_at (Err (Ip facts))
never_v6 bytes ip_at facts h =
    let header : Result IpPacket Decoded = Err (Ip facts) in
    let found = of_ok (end_v6 bytes ip_at) (λ end. IsBehindChain bytes ip_at end header)
    (λ answer. header ≡ Err answer)
    (λ answer e same. never_end_v6 bytes ip_at facts
    (e ∙ ap (λ a. Err a) (sym (same_err same)))) h in
    never_behind_v6 bytes ip_at found.0 found.1.1.last facts (sym found.1.1.says)

-- a record with a packet's facts has IP headers
pub record IsRead (link : Link) (bytes : List ℕ) (facts : Facts) : Type 0 where
  pub packet : IpPacket
  pub ip : IsIpPacket link bytes packet
  pub carries : Carries bytes packet (Ip facts)

read_v4 : (link : Link) (bytes : List ℕ) (facts : Facts) → version_behind link bytes ≡ Ok V4
    → DecodesIp V4 bytes (packet_at link) (Ip facts) → IsRead link bytes facts
read_v4 link bytes facts version decodes =
    let found = of_ok decodes.header (λ packet. Carries bytes packet (Ip facts))
    (λ answer. Ip facts ≡ answer)
    (λ answer e same. never_v4 bytes (packet_at link) facts
    (sym decodes.read ∙ e ∙ ap (λ a. Err a) (sym same))) decodes.says in
    let whole = is_whole_v4 bytes (packet_at link) found.0 (sym decodes.read ∙ found.1.0) in
    record {
      packet = found.0;
      ip = ip_packet_v4 link bytes found.0 (version_v4 link bytes version) whole;
      carries = found.1.1;
    }

read_v6 : (link : Link) (bytes : List ℕ) (facts : Facts) → version_behind link bytes ≡ Ok V6
    → DecodesIp V6 bytes (packet_at link) (Ip facts) → IsRead link bytes facts
read_v6 link bytes facts version decodes =
    let P : Result IpPacket Decoded → Type 0 = λ header. IsPacketV6 bytes (packet_at link) header in
    let found = of_ok decodes.header (λ packet. Carries bytes packet (Ip facts))
    (λ answer. Ip facts ≡ answer)
    (λ answer e same. never_v6 bytes (packet_at link) facts
    (subst P (e ∙ ap (λ a. Err a) (sym same)) decodes.read)) decodes.says in
    let whole = is_whole_v6 bytes (packet_at link) found.0 (subst P found.1.0 decodes.read) in
    record {
      packet = found.0;
      ip = ip_packet_v6 link bytes found.0 (version_v6 link bytes version) whole;
      carries = found.1.1;
    }

read_version : (link : Link) (bytes : List ℕ) (facts : Facts) (version : Version)
    → version_behind link bytes ≡ Ok version
    → DecodesIp version bytes (packet_at link) (Ip facts) → IsRead link bytes facts
read_version link bytes facts V4 e decodes = read_v4 link bytes facts e decodes
read_version link bytes facts V6 e decodes = read_v6 link bytes facts e decodes

pub is_read : (link : Link) (bytes : List ℕ) (facts : Facts) → Decodes link bytes (Ip facts)
    → IsRead link bytes facts
is_read link bytes facts decodes =
    let found = of_ok (version_behind link bytes)
    (λ version. DecodesIp version bytes (packet_at link) (Ip facts))
    (λ answer. Ip facts ≡ answer)
    (λ answer e same. never_version link bytes facts (e ∙ ap (λ a. Err a) (sym same))) decodes
    in
    read_version link bytes facts found.0 found.1.0 found.1.1
