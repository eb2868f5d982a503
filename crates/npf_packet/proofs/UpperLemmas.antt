-- What a packet carries that was decoded, and where its parts stand.
use Rattle.std.proofs.Common.{◌≡◌, ℕ, ◌+◌, ◌-◌, ◌≤◌, ◌⊎◌, Option, Some, None, List, [], ◌∷◌, Ok, Err, refl, sym, ap, ◌∙◌, inl, inr, ⊎_elim, arith}
use Rattle.std.{proofs.lemmas.Bool.Decides.nat_tests, specs.{Option.option_or, Prelude.IfSome}}
use Rattle.npf_types.specs.declared.{address.Addr.{Addr, TheVariants.{V4, V6}}, facts.{Facts.Facts, L4.L4}}
use Rattle.npf_packet.specs.declared.{decoded.Decoded.TheVariants.Ip, tcp_option.Options.Options, packet.IpPacket.IpPacket, upper.Upper.Upper}
use Rattle.npf_packet.specs.{declared.upper.Upper.TheVariants.{Tcp, Udp, Icmp, Icmpv6, Other}, Chain.IsChain}
use Rattle.npf_packet.specs.{TcpOption.{HasOptions, first_said, mss_at, option_end}, Packet.{facts_of, with_header}, PacketField.{HasUpperFields, HasProtocol}}
use Rattle.npf_packet.specs.{Place.{HasOptionAt, IsAmongOptions, least_upper_header}, Tcp.{CarriesTcp, HasSegment, header_end, segment_of}}
use Rattle.npf_packet.{specs.Upper.{Carries, CarriesAs, upper_of}, proofs.{ChainLemmas.is_some_and, HeaderLemmas.of_ok}}

pub some_of_either : (a b : Option ℕ) (x : ℕ) → option_or a b ≡ Some x → (a ≡ Some x) ⊎ (b ≡ Some x)
some_of_either (Some y) b x h = inl h
some_of_either None b x h = inr h

module _ (bytes : List ℕ) (to : ℕ) where
  -- an option ends behind its place
  option_end-after : (at end : ℕ) → option_end bytes to at ≡ Some end → at ≤ end
  option_end-after at end h = grind (arith, nat_tests)

  -- the number of a maximum segment size stands within its option
  mss_at-within : (at end mss : ℕ) → option_end bytes to at ≡ Some end → mss_at bytes at ≡ Some mss
      → (at ≤ mss) × (mss + 2 ≤ to)
  mss_at-within at end mss h said = (grind (arith, nat_tests), grind (arith, nat_tests))

  -- and so within the options
  mss-within : (from : ℕ) (places : List ℕ) (last mss : ℕ)
      → IsChain (option_end bytes to) from places last
      → first_said (mss_at bytes) places ≡ Some mss → (from ≤ mss) × (mss + 2 ≤ to)
  mss-within from [] last mss chain said = absurd (cc)
  mss-within from (x ∷ xs) last mss chain said =
      let on = is_some_and (option_end bytes to from)
      (λ second. IsChain (option_end bytes to) second xs last) chain.1 in
      let here : mss_at bytes x ≡ Some mss → (from ≤ mss) × (mss + 2 ≤ to) =
      λ one. mss_at-within from on.0 mss on.1.0 (ap (mss_at bytes) (sym chain.0) ∙ one) in
      let there : first_said (mss_at bytes) xs ≡ Some mss → (from ≤ mss) × (mss + 2 ≤ to) =
      λ other.
      let more = mss-within on.0 xs last mss on.1.1 other in
      let after = option_end-after from on.0 on.1.0 in
      (omega (arith, more.0, after), more.1) in
      ⊎_elim here there (some_of_either (mss_at bytes x) (first_said (mss_at bytes) xs) mss said)

-- what a packet carries, and has fields
pub record IsCarried (bytes : List ℕ) (packet : IpPacket) (facts : Facts) : Type 0 where
  pub l4 : L4
  pub is : facts_of packet l4 ≡ facts
  pub fields : HasUpperFields bytes packet.l4_at l4
  pub protocol : HasProtocol packet.src packet.proto l4
  pub header : packet.l4_at + least_upper_header l4 ≤ packet.end
  pub option : HasOptionAt (facts_of packet l4) l4

pub same_facts : (one other : Facts) → Ip one ≡ Ip other → one ≡ other
same_facts one other h = cc

-- a header that is whole
header-whole : (packet : IpPacket) (n : ℕ) (l4 : L4) (facts : Facts)
    → Ip facts ≡ with_header packet n l4
    → (packet.l4_at + n ≤ packet.end) × (facts_of packet l4 ≡ facts)
header-whole packet n l4 facts h = (grind (arith, nat_tests), grind (arith, nat_tests))

header_end-bounds : (bytes : List ℕ) (packet : IpPacket) (end : ℕ) → header_end bytes packet ≡ Ok end
    → (packet.l4_at + 20 ≤ end) × (end ≤ packet.end)
header_end-bounds bytes packet end h = (grind (arith, nat_tests), grind (arith, nat_tests))

never_header_end : (bytes : List ℕ) (packet : IpPacket) (facts : Facts)
    → ¬ (header_end bytes packet ≡ Err (Ip facts))
never_header_end bytes packet facts = λ h. grind (arith, nat_tests)

protocol_tcp : (src : Addr) (proto : ℕ) → upper_of src proto ≡ Tcp → proto ≡ 6
protocol_tcp (V4 a) proto h = grind (arith, nat_tests)
protocol_tcp (V6 a) proto h = grind (arith, nat_tests)

protocol_udp : (src : Addr) (proto : ℕ) → upper_of src proto ≡ Udp → proto ≡ 17
protocol_udp (V4 a) proto h = grind (arith, nat_tests)
protocol_udp (V6 a) proto h = grind (arith, nat_tests)

protocol_icmp : (src : Addr) (proto kind code : ℕ) (echo : Option ℕ) → upper_of src proto ≡ Icmp
    → HasProtocol src proto (L4.Icmp kind code echo)
protocol_icmp (V4 a) proto kind code echo h = grind (arith, nat_tests)
protocol_icmp (V6 a) proto kind code echo h = grind (arith, nat_tests)

protocol_icmpv6 : (src : Addr) (proto kind code : ℕ) (echo : Option ℕ) → upper_of src proto ≡ Icmpv6
    → HasProtocol src proto (L4.Icmp6 kind code echo)
protocol_icmpv6 (V4 a) proto kind code echo h = grind (arith, nat_tests)
protocol_icmpv6 (V6 a) proto kind code echo h = grind (arith, nat_tests)

protocol_other : (src : Addr) (proto : ℕ) → upper_of src proto ≡ Other
    → HasProtocol src proto L4.Other
protocol_other (V4 a) proto h =
    (grind (arith, nat_tests), grind (arith, nat_tests), grind (arith, nat_tests))
protocol_other (V6 a) proto h =
    (grind (arith, nat_tests), grind (arith, nat_tests), grind (arith, nat_tests))

module _ (bytes : List ℕ) (packet : IpPacket) (facts : Facts) where
  option_of : (end : ℕ) (options : Options) → HasOptions bytes (packet.l4_at + 20) end options
      → end ≤ packet.end
      → (o : Option ℕ) → o ≡ options.mss_at
      → IfSome o (IsAmongOptions (facts_of packet (segment_of bytes packet end options))
      (packet.end - end))
  option_of end options read within None e = tt
  option_of end options read within (Some mss) e =
      let found = mss-within bytes end (packet.l4_at + 20) read.places read.last mss read.chain
      (sym read.mss ∙ sym e) in
      record { after = found.0; before = omega (arith, found.1) }

  carried_tcp : packet.proto ≡ 6 → CarriesTcp bytes packet (Ip facts) → IsCarried bytes packet facts
  carried_tcp proto carries =
      let found = of_ok (header_end bytes packet) (λ end. HasSegment bytes packet end (Ip facts))
      (λ answer. Ip facts ≡ answer)
      (λ answer e same. never_header_end bytes packet facts (e ∙ ap (λ a. Err a) (sym same)))
      carries in
      let end = found.0 in
      let segment = found.1.1 in
      let bounds = header_end-bounds bytes packet end found.1.0 in
      record {
        l4 = segment_of bytes packet end segment.options;
        is = sym (same_facts facts (facts_of packet (segment_of bytes packet end segment.options))
            segment.says);
        fields = record {
          ports = record { source = refl; destination = refl };
          flags = refl;
          sequence = refl;
          acknowledgment = refl;
          window = refl;
        };
        protocol = proto;
        header = omega arith;
        option = option_of end segment.options segment.read bounds.1 segment.options.mss_at refl;
      }

  carried_as : (upper : Upper) → upper_of packet.src packet.proto ≡ upper
      → packet.l4_at ≤ packet.end
      → CarriesAs upper bytes packet (Ip facts) → IsCarried bytes packet facts
  carried_as Tcp is ends carries = carried_tcp (protocol_tcp packet.src packet.proto is) carries
  carried_as Udp is ends carries =
      let whole = header-whole packet 8 _ facts carries in
      record {
        l4 = _;
        is = whole.1;
        fields = record { source = refl; destination = refl };
        protocol = protocol_udp packet.src packet.proto is;
        header = whole.0;
        option = tt;
      }
  carried_as Icmp is ends carries =
      let whole = header-whole packet 8 _ facts carries in
      record {
        l4 = _;
        is = whole.1;
        fields = (record { message_type = refl; message_code = refl }, refl);
        protocol = protocol_icmp packet.src packet.proto _ _ _ is;
        header = whole.0;
        option = tt;
      }
  carried_as Icmpv6 is ends carries =
      let whole = header-whole packet 8 _ facts carries in
      record {
        l4 = _;
        is = whole.1;
        fields = (record { message_type = refl; message_code = refl }, refl);
        protocol = protocol_icmpv6 packet.src packet.proto _ _ _ is;
        header = whole.0;
        option = tt;
      }
  carried_as Other is ends carries = record {
    l4 = L4.Other;
    is = sym (same_facts facts (facts_of packet L4.Other) carries);
    fields = tt;
    protocol = protocol_other packet.src packet.proto is;
    header = omega arith;
    option = tt;
  }

  pub is_carried : packet.l4_at ≤ packet.end → Carries bytes packet (Ip facts)
      → IsCarried bytes packet facts
  is_carried ends carries = carried_as (upper_of packet.src packet.proto) refl ends carries
