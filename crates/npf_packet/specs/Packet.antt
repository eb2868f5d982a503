-- What the headers of IP say of a packet, and what follows for its facts.
use Rattle.std.specs.Prelude.{ℕ, ◌+◌, ◌≤◌, nat_lt, if◌then◌else◌, List, length}
use Rattle.npf_types.specs.declared.facts.Facts.{Facts}
use Rattle.npf_types.specs.declared.facts.L4.{L4}
use Rattle.npf_packet.specs.declared.decoded.Decoded.{Decoded}
use Rattle.npf_packet.specs.declared.decoded.Decoded.TheVariants.{Ip}
use Rattle.npf_packet.specs.declared.packet.IpPacket.{IpPacket}
use Rattle.npf_packet.specs.Decoded.{cut}

-- the packet's parts stand in order within the bytes
pub record IsPlaced (bytes : List ℕ) (packet : IpPacket) : Type 0 where
  pub ip : packet.ip_at ≤ packet.l4_at
  pub upper : packet.l4_at ≤ packet.end
  pub end : packet.end ≤ length bytes

-- the facts of a packet that carries this
abbrev pub facts_of : IpPacket → L4 → Facts
facts_of packet l4 = record {
  src = packet.src;
  dst = packet.dst;
  proto = packet.proto;
  ip_at = packet.ip_at;
  l4_at = packet.l4_at;
  end = packet.end;
  l4 = l4;
}

-- what is carried has a header of this many bytes, and is this where they stand before the packet's end
abbrev pub with_header : IpPacket → ℕ → L4 → Decoded
with_header packet header_len l4 =
    if nat_lt packet.end (packet.l4_at + header_len) then cut packet.end else Ip (facts_of packet l4)
