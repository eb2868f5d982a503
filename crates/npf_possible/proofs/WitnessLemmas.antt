-- The witness of possible facts decodes to them.
use Rattle.std.proofs.Common.{◌≡◌, ◌≢◌, ◌<◌, ◌≤◌, ℕ, suc, zero, ◌+◌, ◌^◌, false, ◌∷◌, [], ◌++◌}
use Rattle.std.proofs.Common.{Option, Some, None, List, length, Ok, refl, sym, ap, ◌∙◌, subst, arith}
use Rattle.std.{specs.{Int.byte_at, Prelude.◌==◌}, proofs.lemmas.{Bool.Decides.nat_tests, List.length-append}}
use Rattle.byteorder.specs.{Endian.{big_bytes, big_number}, Numbers.big_number-reads_back}
use Rattle.npf_fields.specs.Field.{number16, number32, number128}
use Rattle.npf_types.specs.declared.{address.Addr.{Addr, TheVariants.{V4, V6}}, facts.{Facts.Facts, Segment.Segment}}
use Rattle.npf_types.specs.declared.{facts.L4.{L4, TheVariants.{Tcp, Udp, Icmp, Icmp6, Other}}, link.Link.TheVariants.Raw}
use Rattle.npf_packet.specs.{declared.decoded.Decoded.TheVariants.Ip, Decoder.Decodes, Icmp.echo_in_icmp, Icmpv6.echo_in_icmpv6, Ipv4.{fields_v4, packet_v4}, Ipv6.is_extension}
use Rattle.npf_packet.{specs.{Packet.facts_of, PacketField.HasProtocol}, proofs.HeaderLemmas.fields_v6}
use Rattle.npf_possible.specs.Possible.{AreAddresses, HasFieldSizes, IsCarried}
use Rattle.npf_possible.specs.{PossibleLaw.{HasBytes, PossibleHasWitness}, Tested.{SameTested, control_bits_of, message_of}}
use Rattle.npf_model.specs.Describes.{destination_of, source_of}
use Rattle.npf_possible.specs.Witness.{address_bytes, checksum_of, ip_header, ipv4_bytes, ipv6_bytes, upper_bytes, carried_checksum, witness_bytes}

-- what was written is read
number16-reads : (n : ℕ) → n < 2 ^ 16 → number16 (big_bytes 2 n ++ []) 0 ≡ n
number16-reads n small =
    let start : number16 (big_bytes 2 n ++ []) 0 ≡ big_number 2 (big_bytes 2 n ++ []) = omega arith in
    start ∙ big_number-reads_back 2 n [] small

number32-reads : (n : ℕ) → n < 2 ^ 32 → number32 (big_bytes 4 n ++ []) 0 ≡ n
number32-reads n small =
    let start : number32 (big_bytes 4 n ++ []) 0 ≡ big_number 4 (big_bytes 4 n ++ []) = omega arith in
    start ∙ big_number-reads_back 4 n [] small

number128-reads : (n : ℕ) → n < 2 ^ 128 → number128 (big_bytes 16 n ++ []) 0 ≡ n
number128-reads n small =
    let start : number128 (big_bytes 16 n ++ []) 0 ≡ big_number 16 (big_bytes 16 n ++ []) = omega arith in
    start ∙ big_number-reads_back 16 n [] small

differs : {n proto : ℕ} → proto ≢ n → (proto == n) ≡ false
differs {n} {proto} ne = grind (arith, nat_tests)

-- each of these is a byte
pub record MadeOfBytes (bytes : List ℕ) : Type 0 where
  pub each : HasBytes bytes

one_more : (x : ℕ) (xs : List ℕ) → x < 2 ^ 8 → HasBytes xs → HasBytes (x ∷ xs)
one_more x xs here more zero = here
one_more x xs here more (suc at) = more at

both_parts : (xs ys : List ℕ) → HasBytes xs → HasBytes ys → HasBytes (xs ++ ys)
both_parts [] ys front behind = behind
both_parts (x ∷ xs) ys front behind = one_more x (xs ++ ys) (front 0) (both_parts xs ys (λ at. front (suc at)) behind)

joined : {xs ys : List ℕ} → MadeOfBytes xs → MadeOfBytes ys → MadeOfBytes (xs ++ ys)
joined {xs} {ys} front behind = record { each = both_parts xs ys front.each behind.each }

more : (x : ℕ) {xs : List ℕ} → x < 2 ^ 8 → MadeOfBytes xs → MadeOfBytes (x ∷ xs)
more x {xs} here rest = record { each = one_more x xs here rest.each }

none : MadeOfBytes []
none = record { each = λ at. omega arith }

byte_small : (k v : ℕ) → byte_at k v < 2 ^ 8
byte_small zero v = omega arith
byte_small (suc k) v = omega arith

written : (n v : ℕ) → MadeOfBytes (big_bytes n v)
written zero v = none
written (suc n) v = more (byte_at n v) (byte_small n v) (written n v)

pair : (x y : ℕ) → x < 2 ^ 8 → y < 2 ^ 8 → MadeOfBytes (x ∷ y ∷ [])
pair x y one two = more x one (more y two none)

address_is_bytes : (addr : Addr) → MadeOfBytes (address_bytes addr)
address_is_bytes (V4 a) = written 4 a
address_is_bytes (V6 a) = written 16 a

upper_is_bytes : (l4 : L4) (sum : ℕ) → HasFieldSizes l4 → MadeOfBytes (upper_bytes l4 sum)
upper_is_bytes (Tcp sport dport segment mss_at) sum sizes =
    let numbers = joined (joined (joined (written 2 sport) (written 2 dport)) (written 4 0)) (written 4 0) in
    joined (joined (joined (joined numbers (pair 0x50 segment.flags (omega arith) sizes.2)) (written 2 0)) (written 2 sum)) (written 2 0)
upper_is_bytes (Udp sport dport) sum sizes = joined (joined (joined (written 2 sport) (written 2 dport)) (written 2 8)) (written 2 sum)
upper_is_bytes (Icmp kind code echo) sum sizes = joined (joined (pair kind code sizes.0 sizes.1) (written 2 sum)) (written 4 0)
upper_is_bytes (Icmp6 kind code echo) sum sizes = joined (joined (pair kind code sizes.0 sizes.1) (written 2 sum)) (written 4 0)
upper_is_bytes Other sum sizes = none

header_is_bytes : (src : Addr) (facts : Facts) → facts.proto < 2 ^ 8 → MadeOfBytes (ip_header src facts)
header_is_bytes (V4 a) facts size =
    let length_bytes = written 2 (20 + length (upper_bytes facts.l4 0)) in
    let sum_bytes = written 2 (checksum_of (ipv4_bytes facts 0)) in
    let front = joined (joined (pair 0x45 0 (omega arith) (omega arith)) length_bytes) (written 4 0) in
    joined (joined (joined (joined front (pair 64 facts.proto (omega arith) size)) sum_bytes) (address_is_bytes facts.src)) (address_is_bytes facts.dst)
header_is_bytes (V6 a) facts size =
    let version = more 0x60 (omega arith) (more 0 (omega arith) (pair 0 0 (omega arith) (omega arith))) in
    let front = joined (joined version (written 2 (length (upper_bytes facts.l4 0)))) (pair facts.proto 64 size (omega arith)) in
    joined (joined front (address_is_bytes facts.src)) (address_is_bytes facts.dst)

-- bytes without a link's header that decode to facts that agree in what is tested
pub record IsShown (facts : Facts) (bytes : List ℕ) : Type 0 where
  pub decoded : Facts
  pub decodes : Decodes Raw bytes (Ip decoded)
  pub same : SameTested facts decoded

agrees : {one other : Facts} → one.src ≡ other.src → one.dst ≡ other.dst → one.proto ≡ other.proto
    → source_of one.l4 ≡ source_of other.l4 → destination_of one.l4 ≡ destination_of other.l4
    → control_bits_of one.l4 ≡ control_bits_of other.l4 → message_of one.l4 ≡ message_of other.l4 → SameTested one other
agrees a b c d e f g = record { src = a; dst = b; protocol = c; source = d; destination = e; control_bits = f; message = g }

-- facts with these places, which nothing of a witness depends on
abbrev facts_with : ℕ → ℕ → ℕ → Addr → Addr → ℕ → L4 → Facts
facts_with i j k src dst proto l4 = record { src = src; dst = dst; proto = proto; ip_at = i; l4_at = j; end = k; l4 = l4 }

module _ (i j k a b : ℕ) where
  abbrev facts_v4 : ℕ → L4 → Facts
  facts_v4 proto l4 = facts_with i j k (V4 a) (V4 b) proto l4

  abbrev facts_v6 : ℕ → L4 → Facts
  facts_v6 proto l4 = facts_with i j k (V6 a) (V6 b) proto l4

  -- packets with these sums
  abbrev sent_v4 : ℕ → ℕ → ℕ → L4 → List ℕ
  sent_v4 s t proto l4 = ipv4_bytes (facts_v4 proto l4) s ++ upper_bytes l4 t

  abbrev sent_v6 : ℕ → ℕ → L4 → List ℕ
  sent_v6 t proto l4 = ipv6_bytes (facts_v6 proto l4) ++ upper_bytes l4 t

module _ (i j k a b s t : ℕ) (a_small : a < 2 ^ 32) (b_small : b < 2 ^ 32) where
  tcp_v4 : (sport dport : ℕ) (segment : Segment) (mss_at : Option ℕ) → HasFieldSizes (Tcp sport dport segment mss_at)
      → IsShown (facts_v4 i j k a b 6 (Tcp sport dport segment mss_at)) (sent_v4 i j k a b s t 6 (Tcp sport dport segment mss_at))
  tcp_v4 sport dport segment mss_at sizes =
      let bytes = sent_v4 i j k a b s t 6 (Tcp sport dport segment mss_at) in
      let sport_there = number16 bytes 20 in
      let dport_there = number16 bytes 22 in
      let segment_there : Segment = record { flags = segment.flags; seq = number32 bytes 24; ack = number32 bytes 28; win = number16 bytes 34; len = 0; scale = None } in
      let told : L4 = Tcp sport_there dport_there segment_there None in
      record {
        decoded = facts_of (fields_v4 bytes 0) told;
        decodes = record {
          header = packet_v4 bytes 0;
          read = refl;
          says = record {
            options = record { scale = None; mss_at = None };
            read = record { places = []; last = 40; chain = (refl, refl); scale = refl; mss = refl };
            says = refl;
          };
        };
        same =
            agrees (ap V4 (sym (number32-reads a a_small))) (ap V4 (sym (number32-reads b b_small))) refl
            (ap Some (sym (number16-reads sport sizes.0))) (ap Some (sym (number16-reads dport sizes.1))) refl refl;
      }

  udp_v4 : (sport dport : ℕ) → HasFieldSizes (Udp sport dport)
      → IsShown (facts_v4 i j k a b 17 (Udp sport dport)) (sent_v4 i j k a b s t 17 (Udp sport dport))
  udp_v4 sport dport sizes =
      let bytes = sent_v4 i j k a b s t 17 (Udp sport dport) in
      let told : L4 = Udp (number16 bytes 20) (number16 bytes 22) in
      record {
        decoded = facts_of (fields_v4 bytes 0) told;
        decodes = record { header = packet_v4 bytes 0; read = refl; says = refl };
        same =
            agrees (ap V4 (sym (number32-reads a a_small))) (ap V4 (sym (number32-reads b b_small))) refl
            (ap Some (sym (number16-reads sport sizes.0))) (ap Some (sym (number16-reads dport sizes.1))) refl refl;
      }

  icmp_v4 : (kind code : ℕ) (echo : Option ℕ)
      → IsShown (facts_v4 i j k a b 1 (Icmp kind code echo)) (sent_v4 i j k a b s t 1 (Icmp kind code echo))
  icmp_v4 kind code echo =
      let bytes = sent_v4 i j k a b s t 1 (Icmp kind code echo) in
      let told : L4 = Icmp kind code (echo_in_icmp bytes 20) in
      record {
        decoded = facts_of (fields_v4 bytes 0) told;
        decodes = record { header = packet_v4 bytes 0; read = refl; says = refl };
        same =
            agrees (ap V4 (sym (number32-reads a a_small))) (ap V4 (sym (number32-reads b b_small))) refl
            refl refl refl refl;
      }

  other_v4 : (proto : ℕ) → IsCarried (V4 a) proto → HasProtocol (V4 a) proto Other
      → IsShown (facts_v4 i j k a b proto Other) (sent_v4 i j k a b s t proto Other)
  other_v4 proto carried other =
      let bytes = sent_v4 i j k a b s t proto Other in
      let told : L4 = Other in
      let six = differs other.0 in
      let seventeen = differs other.1 in
      let one = differs other.2 in
      record {
        decoded = facts_of (fields_v4 bytes 0) told;
        decodes = record { header = packet_v4 bytes 0; read = refl; says = rw (six, seventeen, one) refl };
        same =
            agrees (ap V4 (sym (number32-reads a a_small))) (ap V4 (sym (number32-reads b b_small))) refl
            refl refl refl refl;
      }

module _ (i j k a b t : ℕ) (a_small : a < 2 ^ 128) (b_small : b < 2 ^ 128) where
  tcp_v6 : (sport dport : ℕ) (segment : Segment) (mss_at : Option ℕ) → HasFieldSizes (Tcp sport dport segment mss_at)
      → IsShown (facts_v6 i j k a b 6 (Tcp sport dport segment mss_at)) (sent_v6 i j k a b t 6 (Tcp sport dport segment mss_at))
  tcp_v6 sport dport segment mss_at sizes =
      let bytes = sent_v6 i j k a b t 6 (Tcp sport dport segment mss_at) in
      let sport_there = number16 bytes 40 in
      let dport_there = number16 bytes 42 in
      let segment_there : Segment = record { flags = segment.flags; seq = number32 bytes 44; ack = number32 bytes 48; win = number16 bytes 54; len = 0; scale = None } in
      let told : L4 = Tcp sport_there dport_there segment_there None in
      record {
        decoded = facts_of (fields_v6 bytes 0 60 (record { kind = 6; named_at = 6; at = 40 })) told;
        decodes = record {
          header = Ok (fields_v6 bytes 0 60 (record { kind = 6; named_at = 6; at = 40 }));
          read = record { last = record { kind = 6; named_at = 6; at = 40 }; chain = record { headers = []; chain = (refl, refl) }; says = refl };
          says = record {
            options = record { scale = None; mss_at = None };
            read = record { places = []; last = 60; chain = (refl, refl); scale = refl; mss = refl };
            says = refl;
          };
        };
        same =
            agrees (ap V6 (sym (number128-reads a a_small))) (ap V6 (sym (number128-reads b b_small))) refl
            (ap Some (sym (number16-reads sport sizes.0))) (ap Some (sym (number16-reads dport sizes.1))) refl refl;
      }

  udp_v6 : (sport dport : ℕ) → HasFieldSizes (Udp sport dport)
      → IsShown (facts_v6 i j k a b 17 (Udp sport dport)) (sent_v6 i j k a b t 17 (Udp sport dport))
  udp_v6 sport dport sizes =
      let bytes = sent_v6 i j k a b t 17 (Udp sport dport) in
      let told : L4 = Udp (number16 bytes 40) (number16 bytes 42) in
      record {
        decoded = facts_of (fields_v6 bytes 0 48 (record { kind = 17; named_at = 6; at = 40 })) told;
        decodes = record {
          header = Ok (fields_v6 bytes 0 48 (record { kind = 17; named_at = 6; at = 40 }));
          read = record { last = record { kind = 17; named_at = 6; at = 40 }; chain = record { headers = []; chain = (refl, refl) }; says = refl };
          says = refl;
        };
        same =
            agrees (ap V6 (sym (number128-reads a a_small))) (ap V6 (sym (number128-reads b b_small))) refl
            (ap Some (sym (number16-reads sport sizes.0))) (ap Some (sym (number16-reads dport sizes.1))) refl refl;
      }

  icmp6_v6 : (kind code : ℕ) (echo : Option ℕ)
      → IsShown (facts_v6 i j k a b 58 (Icmp6 kind code echo)) (sent_v6 i j k a b t 58 (Icmp6 kind code echo))
  icmp6_v6 kind code echo =
      let bytes = sent_v6 i j k a b t 58 (Icmp6 kind code echo) in
      let told : L4 = Icmp6 kind code (echo_in_icmpv6 bytes 40) in
      record {
        decoded = facts_of (fields_v6 bytes 0 48 (record { kind = 58; named_at = 6; at = 40 })) told;
        decodes = record {
          header = Ok (fields_v6 bytes 0 48 (record { kind = 58; named_at = 6; at = 40 }));
          read = record { last = record { kind = 58; named_at = 6; at = 40 }; chain = record { headers = []; chain = (refl, refl) }; says = refl };
          says = refl;
        };
        same =
            agrees (ap V6 (sym (number128-reads a a_small))) (ap V6 (sym (number128-reads b b_small))) refl
            refl refl refl refl;
      }

  other_v6 : (proto : ℕ) → IsCarried (V6 a) proto → HasProtocol (V6 a) proto Other
      → IsShown (facts_v6 i j k a b proto Other) (sent_v6 i j k a b t proto Other)
  other_v6 proto carried other =
      let bytes = sent_v6 i j k a b t proto Other in
      let told : L4 = Other in
      let six = differs other.0 in
      let seventeen = differs other.1 in
      let fifty_eight = differs other.2 in
      let options = differs carried.0 in
      let routing = differs carried.1 in
      let fragment = differs carried.2 in
      let authentication = differs carried.3 in
      let destination = differs carried.4 in
      let plain : is_extension proto ≡ false = rw (options, routing, authentication, destination) refl in
      record {
        decoded = facts_of (fields_v6 bytes 0 40 (record { kind = proto; named_at = 6; at = 40 })) told;
        decodes = record {
          header = Ok (fields_v6 bytes 0 40 (record { kind = proto; named_at = 6; at = 40 }));
          read = record { last = record { kind = proto; named_at = 6; at = 40 }; chain = record { headers = []; chain = (refl, rw plain refl) }; says = rw (plain, fragment) refl };
          says = rw (six, seventeen, fifty_eight) refl;
        };
        same =
            agrees (ap V6 (sym (number128-reads a a_small))) (ap V6 (sym (number128-reads b b_small))) refl
            refl refl refl refl;
      }

-- the same of the facts with another number for the protocol, which is that one
renumbered : (i j k : ℕ) (src dst : Addr) (n proto : ℕ) (l4 : L4) → proto ≡ n
    → IsShown (facts_with i j k src dst n l4) (witness_bytes (facts_with i j k src dst n l4))
    → IsShown (facts_with i j k src dst proto l4) (witness_bytes (facts_with i j k src dst proto l4))
renumbered i j k src dst n proto l4 e shown =
    subst (λ (m : ℕ). IsShown (facts_with i j k src dst m l4) (witness_bytes (facts_with i j k src dst m l4))) (sym e) shown

module _ (i j k : ℕ) where
  is_shown : (src dst : Addr) (proto : ℕ) (l4 : L4) → AreAddresses src dst → IsCarried src proto → HasProtocol src proto l4 → HasFieldSizes l4
      → IsShown (facts_with i j k src dst proto l4) (witness_bytes (facts_with i j k src dst proto l4))
  is_shown (V4 a) (V4 b) proto (Tcp sport dport segment mss_at) addresses carried protocol sizes =
      renumbered i j k (V4 a) (V4 b) 6 proto (Tcp sport dport segment mss_at) protocol (tcp_v4 i j k a b _ _ addresses.0 addresses.1 sport dport segment mss_at sizes)
  is_shown (V4 a) (V4 b) proto (Udp sport dport) addresses carried protocol sizes =
      renumbered i j k (V4 a) (V4 b) 17 proto (Udp sport dport) protocol (udp_v4 i j k a b _ _ addresses.0 addresses.1 sport dport sizes)
  is_shown (V4 a) (V4 b) proto (Icmp kind code echo) addresses carried protocol sizes =
      renumbered i j k (V4 a) (V4 b) 1 proto (Icmp kind code echo) protocol (icmp_v4 i j k a b _ _ addresses.0 addresses.1 kind code echo)
  is_shown (V4 a) (V4 b) proto (Icmp6 kind code echo) addresses carried protocol sizes = absurd protocol
  is_shown (V4 a) (V4 b) proto Other addresses carried protocol sizes = other_v4 i j k a b _ 0 addresses.0 addresses.1 proto carried protocol
  is_shown (V6 a) (V6 b) proto (Tcp sport dport segment mss_at) addresses carried protocol sizes =
      renumbered i j k (V6 a) (V6 b) 6 proto (Tcp sport dport segment mss_at) protocol (tcp_v6 i j k a b _ addresses.0 addresses.1 sport dport segment mss_at sizes)
  is_shown (V6 a) (V6 b) proto (Udp sport dport) addresses carried protocol sizes =
      renumbered i j k (V6 a) (V6 b) 17 proto (Udp sport dport) protocol (udp_v6 i j k a b _ addresses.0 addresses.1 sport dport sizes)
  is_shown (V6 a) (V6 b) proto (Icmp kind code echo) addresses carried protocol sizes = absurd protocol
  is_shown (V6 a) (V6 b) proto (Icmp6 kind code echo) addresses carried protocol sizes =
      renumbered i j k (V6 a) (V6 b) 58 proto (Icmp6 kind code echo) protocol (icmp6_v6 i j k a b _ addresses.0 addresses.1 kind code echo)
  is_shown (V6 a) (V6 b) proto Other addresses carried protocol sizes = other_v6 i j k a b 0 addresses.0 addresses.1 proto carried protocol
  is_shown (V4 a) (V6 b) proto l4 addresses carried protocol sizes = absurd addresses
  is_shown (V6 a) (V4 b) proto l4 addresses carried protocol sizes = absurd addresses

upper_size : (l4 : L4) (sum : ℕ) → length (upper_bytes l4 sum) ≤ 20
upper_size (Tcp sport dport segment mss_at) sum = omega arith
upper_size (Udp sport dport) sum = omega arith
upper_size (Icmp kind code echo) sum = omega arith
upper_size (Icmp6 kind code echo) sum = omega arith
upper_size Other sum = omega arith

header_size : (src dst : Addr) (proto : ℕ) (l4 : L4) (i j k : ℕ) → AreAddresses src dst → length (ip_header src (facts_with i j k src dst proto l4)) ≤ 40
header_size (V4 a) (V4 b) proto l4 i j k addresses = omega arith
header_size (V6 a) (V6 b) proto l4 i j k addresses = omega arith
header_size (V4 a) (V6 b) proto l4 i j k addresses = absurd addresses
header_size (V6 a) (V4 b) proto l4 i j k addresses = absurd addresses

pub possible_has_witness_lem : PossibleHasWitness
possible_has_witness_lem facts possible =
    let header = ip_header facts.src facts in
    let upper = upper_bytes facts.l4 (carried_checksum facts facts.l4) in
    let shown = is_shown facts.ip_at facts.l4_at facts.end facts.src facts.dst facts.proto facts.l4 possible.addresses possible.carried possible.protocol possible.sizes in
    let are = joined (header_is_bytes facts.src facts possible.size) (upper_is_bytes facts.l4 (carried_checksum facts facts.l4) possible.sizes) in
    let front = header_size facts.src facts.dst facts.proto facts.l4 facts.ip_at facts.l4_at facts.end possible.addresses in
    let behind = upper_size facts.l4 (carried_checksum facts facts.l4) in
    let sum = length-append header upper in
    record { are = are.each; size = omega arith; decoded = shown.decoded; decodes = shown.decodes; same = shown.same }
