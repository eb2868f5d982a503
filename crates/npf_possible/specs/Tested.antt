-- What rules and maps test of a packet's facts: family and addresses, protocol, ports, control bits, and type and code of a message.
use Rattle.std.specs.Prelude.{◌≡◌, ℕ, Option, Some, None}
use Rattle.npf_types.specs.declared.facts.Facts.{Facts}
use Rattle.npf_types.specs.declared.facts.L4.{L4}
use Rattle.npf_types.specs.declared.facts.L4.TheVariants.{Tcp, Udp, Icmp, Icmp6, Other}
use Rattle.npf_model.specs.Describes.{source_of, destination_of}

-- the control bits of a segment (RFC 9293 section 3.1)
abbrev pub control_bits_of : L4 → Option ℕ
control_bits_of (Tcp sport dport segment mss_at) = Some segment.flags
control_bits_of (Udp sport dport) = None
control_bits_of (Icmp kind code echo) = None
control_bits_of (Icmp6 kind code echo) = None
control_bits_of Other = None

-- the type and the code of a message of ICMP or ICMPv6 (RFC 792, RFC 4443 section 2.1)
abbrev pub message_of : L4 → Option (ℕ × ℕ)
message_of (Tcp sport dport segment mss_at) = None
message_of (Udp sport dport) = None
message_of (Icmp kind code echo) = Some (kind, code)
message_of (Icmp6 kind code echo) = Some (kind, code)
message_of Other = None

-- the facts agree in all of it
pub record SameTested (one other : Facts) : Type 0 where
  pub src : one.src ≡ other.src
  pub dst : one.dst ≡ other.dst
  pub protocol : one.proto ≡ other.proto
  pub source : source_of one.l4 ≡ source_of other.l4
  pub destination : destination_of one.l4 ≡ destination_of other.l4
  pub control_bits : control_bits_of one.l4 ≡ control_bits_of other.l4
  pub message : message_of one.l4 ≡ message_of other.l4
