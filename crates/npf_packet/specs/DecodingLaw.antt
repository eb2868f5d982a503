-- What holds of every packet that is decoded.
use Rattle.std.specs.Prelude.{◌≡◌, ℕ, List, length}
use Rattle.npf_types.specs.declared.facts.Facts.{Facts}
use Rattle.npf_types.specs.declared.link.Link.{Link}
use Rattle.npf_packet.specs.declared.decoded.Decoded.{Decoded}
use Rattle.npf_packet.specs.declared.decoded.Decoded.TheVariants.{Ip}
use Rattle.npf_packet.specs.Decoder.{Decodes}
use Rattle.npf_packet.specs.PacketField.{HasFields, HasProtocol, IsPacketOf, packet_bytes}
use Rattle.npf_packet.specs.Place.{HasPlaces}

-- for each link and bytes there is one decoding
abbrev pub OneDecoding : Type 0
OneDecoding =
    (link : Link) (bytes : List ℕ) (one other : Decoded)
    → Decodes link bytes one → Decodes link bytes other → one ≡ other

-- the parts of a packet follow one another within the record's bytes
abbrev pub DecodedHasPlaces : Type 0
DecodedHasPlaces =
    (link : Link) (bytes : List ℕ) (facts : Facts)
    → Decodes link bytes (Ip facts) → HasPlaces link (length bytes) facts

-- the facts are fields of the record's bytes
abbrev pub DecodedHasFields : Type 0
DecodedHasFields =
    (link : Link) (bytes : List ℕ) (facts : Facts)
    → Decodes link bytes (Ip facts) → HasFields bytes facts.ip_at facts.l4_at facts

-- what is carried is told apart by the protocol
abbrev pub DecodedHasProtocol : Type 0
DecodedHasProtocol =
    (link : Link) (bytes : List ℕ) (facts : Facts)
    → Decodes link bytes (Ip facts) → HasProtocol facts.src facts.proto facts.l4

-- the facts are fields of the packet's own bytes
abbrev pub DecodedIsPacket : Type 0
DecodedIsPacket =
    (link : Link) (bytes : List ℕ) (facts : Facts)
    → Decodes link bytes (Ip facts) → IsPacketOf (packet_bytes bytes facts) facts
