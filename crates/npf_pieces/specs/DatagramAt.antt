-- Datagrams that stand one behind the other, and the packets in whose place they come.
use Rattle.std.specs.Prelude.{ℕ, zero, suc, None, List, [], ◌∷◌, take, drop}
use Rattle.npf_types.specs.declared.link.Link.TheVariants.{Raw}
use Rattle.npf_traffic.specs.declared.packet.Packet.{Packet}
use Rattle.npf_pieces.specs.declared.datagram_at.DatagramAt.{DatagramAt}

-- a datagram, and the place of the packet that becomes it
pub record PutTogether : Type 0 where
  pub place : ℕ
  pub bytes : List ℕ

-- those that stand one behind the other in these bytes
abbrev pub cut_at : List DatagramAt → List ℕ → List PutTogether
cut_at [] bytes = []
cut_at (d ∷ ds) bytes = record { place = d.place; bytes = take d.len bytes } ∷ cut_at ds (drop d.len bytes)

-- the packet becomes the datagram: its record is of IP alone, and it isn't held
abbrev pub becomes : List ℕ → Packet → Packet
becomes bytes packet = record packet { link = Raw; held = None; bytes = bytes }

-- the packets with the one at this place changed
abbrev pub with_packet : (Packet → Packet) → ℕ → List Packet → List Packet
with_packet change place [] = []
with_packet change zero (packet ∷ packets) = change packet ∷ packets
with_packet change (suc place) (packet ∷ packets) = packet ∷ with_packet change place packets

-- the packets with these datagrams in their places
abbrev pub with_datagrams : List PutTogether → List Packet → List Packet
with_datagrams [] packets = packets
with_datagrams (d ∷ ds) packets = with_datagrams ds (with_packet (becomes d.bytes) d.place packets)
