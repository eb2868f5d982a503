-- The laws of decoded packets: their places, and their facts as fields of the record's bytes and of
-- the packet's own.
use Rattle.std.proofs.Common.{◌≡◌, ℕ, ◌+◌, ◌-◌, ◌*◌, ◌/◌, ◌%◌, ◌<◌, ◌≤◌, Option, Some, None, List, length, refl, sym, ap, ◌∙◌, subst, arith}
use Rattle.std.specs.Prelude.{if◌then◌else◌, ◌==◌, ◌||◌, slice_index, slice_range}
use Rattle.npf_fields.{specs.Field.{number16, number32}, proofs.RangeNumbers.{byte-range, length-range, number16-range, number32-range, number128-range}}
use Rattle.npf_types.specs.declared.{address.Addr.{Addr, TheVariants.{V4, V6}}, facts.{Facts.Facts, L4.{L4, TheVariants.{Tcp, Udp, Icmp, Icmp6, Other}}}}
use Rattle.npf_packet.specs.{DecodingLaw.{DecodedHasFields, DecodedHasPlaces, DecodedHasProtocol, DecodedIsPacket}, Icmp.echo_in_icmp, Icmpv6.echo_in_icmpv6}
use Rattle.npf_packet.specs.PacketField.{HasFields, HasIpHeader, HasPorts, HasProtocol, HasUpperFields, IsMessage}
use Rattle.npf_packet.{specs.Place.{HasPlaces, least_ip_header, least_upper_header}, proofs.{HeaderLemmas.is_read, UpperLemmas.is_carried}}

pub has_places : DecodedHasPlaces
has_places link bytes facts decodes =
    let read = is_read link bytes facts decodes in
    let carried = is_carried bytes read.packet facts read.ip.before read.carries in
    subst (HasPlaces link (length bytes)) carried.is (record {
      ip = read.ip.ip;
      upper = read.ip.after;
      upper_header = carried.header;
      end = read.ip.end;
      option = carried.option;
    })

pub has_fields : DecodedHasFields
has_fields link bytes facts decodes =
    let read = is_read link bytes facts decodes in
    let carried = is_carried bytes read.packet facts read.ip.before read.carries in
    let P : Facts → Type 0 = λ f. HasFields bytes f.ip_at f.l4_at f in
    subst P carried.is (record { header = read.ip.header; upper = carried.fields })

pub has_protocol : DecodedHasProtocol
has_protocol link bytes facts decodes =
    let read = is_read link bytes facts decodes in
    let carried = is_carried bytes read.packet facts read.ip.before read.carries in
    let P : Facts → Type 0 = λ f. HasProtocol f.src f.proto f.l4 in
    subst P carried.is carried.protocol

-- the fields of a range of bytes, where that has them
module _ (bytes : List ℕ) (from to : ℕ) where
  abbrev own : List ℕ
  own = slice_range bytes from to

  header-own : (l4_at proto : ℕ) (src dst : Addr) → from + least_ip_header src ≤ l4_at → l4_at ≤ to
      → HasIpHeader bytes from l4_at proto src dst → HasIpHeader own 0 (l4_at - from) proto src dst
  header-own l4_at proto (V4 src) (V4 dst) after before h =
      let first : slice_index own 0 ≡ slice_index bytes from =
      byte-range bytes from to 0 from (omega arith) (omega arith) in
      record {
        version = ap (λ (n : ℕ). n / 16) first ∙ h.version;
        len = omega (arith, h.len, ap (λ (n : ℕ). 4 * (n % 16)) first);
        protocol = byte-range bytes from to 9 (from + 9) refl (omega arith) ∙ h.protocol;
        source = number32-range bytes from to 12 (from + 12) refl (omega arith) ∙ h.source;
        destination = number32-range bytes from to 16 (from + 16) refl (omega arith)
            ∙ h.destination;
      }
  header-own l4_at proto (V6 src) (V6 dst) after before h =
      let first : slice_index own 0 ≡ slice_index bytes from =
      byte-range bytes from to 0 from (omega arith) (omega arith) in
      record {
        version = ap (λ (n : ℕ). n / 16) first ∙ h.version;
        source = number128-range bytes from to 8 (from + 8) refl (omega arith) ∙ h.source;
        destination = number128-range bytes from to 24 (from + 24) refl (omega arith)
            ∙ h.destination;
      }
  header-own l4_at proto (V4 src) (V6 dst) after before h = h
  header-own l4_at proto (V6 src) (V4 dst) after before h = h

  module _ (at : ℕ) (after : from ≤ at) where
    byte-own : (k : ℕ) → at + k < to → slice_index own (at - from + k) ≡ slice_index bytes (at + k)
    byte-own k within = byte-range bytes from to (at - from + k) (at + k) (omega arith) within

    number16-own : (k : ℕ) → at + k + 2 ≤ to
        → number16 own (at - from + k) ≡ number16 bytes (at + k)
    number16-own k within = number16-range bytes from to (at - from + k) (at + k) (omega arith)
        within

    number32-own : (k : ℕ) → at + k + 4 ≤ to
        → number32 own (at - from + k) ≡ number32 bytes (at + k)
    number32-own k within = number32-range bytes from to (at - from + k) (at + k) (omega arith)
        within

    ports-own : (sport dport : ℕ) → at + 4 ≤ to → HasPorts bytes at sport dport
        → HasPorts own (at - from) sport dport
    ports-own sport dport within h = record {
      source = number16-own 0 (omega arith) ∙ h.source;
      destination = number16-own 2 (omega arith) ∙ h.destination;
    }

    message-own : (kind number : ℕ) → at + 2 ≤ to → IsMessage bytes at kind number
        → IsMessage own (at - from) kind number
    message-own kind number within h = record {
      message_type = byte-own 0 (omega arith) ∙ h.message_type;
      message_code = byte-own 1 (omega arith) ∙ h.message_code;
    }

    echo_in_icmp-own : at + 8 ≤ to → echo_in_icmp own (at - from) ≡ echo_in_icmp bytes at
    echo_in_icmp-own within =
        let echo : ℕ → ℕ → Option ℕ = λ kind id. if kind == 8 || kind == 0 then Some id else None in
        ap (λ kind. echo kind (number16 own (at - from + 4))) (byte-own 0 (omega arith))
        ∙ ap (echo (slice_index bytes (at + 0))) (number16-own 4 (omega arith))

    echo_in_icmpv6-own : at + 8 ≤ to → echo_in_icmpv6 own (at - from) ≡ echo_in_icmpv6 bytes at
    echo_in_icmpv6-own within =
        let echo : ℕ → ℕ → Option ℕ = λ kind id. if kind == 128 || kind ==
        129 then Some id else None in
        ap (λ kind. echo kind (number16 own (at - from + 4))) (byte-own 0 (omega arith))
        ∙ ap (echo (slice_index bytes (at + 0))) (number16-own 4 (omega arith))

    upper-own : (l4 : L4) → at + least_upper_header l4 ≤ to → HasUpperFields bytes at l4
        → HasUpperFields own (at - from) l4
    upper-own (Tcp sport dport segment mss_at) within h = record {
      ports = ports-own sport dport (omega arith) h.ports;
      flags = byte-own 13 (omega arith) ∙ h.flags;
      sequence = number32-own 4 (omega arith) ∙ h.sequence;
      acknowledgment = number32-own 8 (omega arith) ∙ h.acknowledgment;
      window = number16-own 14 (omega arith) ∙ h.window;
    }
    upper-own (Udp sport dport) within h = ports-own sport dport (omega arith) h
    upper-own (Icmp kind code echo) within h =
        (message-own kind code (omega arith) h.0, h.1 ∙ sym (echo_in_icmp-own within))
    upper-own (Icmp6 kind code echo) within h =
        (message-own kind code (omega arith) h.0, h.1 ∙ sym (echo_in_icmpv6-own within))
    upper-own Other within h = tt

pub is_packet : DecodedIsPacket
is_packet link bytes facts decodes =
    let places = has_places link bytes facts decodes in
    let fields = has_fields link bytes facts decodes in
    record {
      fields = record {
        header = header-own bytes facts.ip_at facts.end facts.l4_at facts.proto facts.src facts.dst
            places.upper (omega arith) fields.header;
        upper = upper-own bytes facts.ip_at facts.end facts.l4_at (omega arith) facts.l4
            places.upper_header fields.upper;
      };
      protocol = has_protocol link bytes facts decodes;
      upper = omega arith;
      upper_header = omega (arith, length-range bytes facts.ip_at facts.end places.end);
    }
