-- A fragment of IPv4 (RFC 791 section 3.1). Its header has 4: identification, 6: fragment field, whose lower 13 bits count
-- units of 8 bytes and whose bit 0x2000 says that more fragments follow.
use Rattle.std.specs.Prelude.{ℕ, ◌+◌, ◌*◌, ◌/◌, ◌%◌, ◌==◌, slice_index}
use Rattle.npf_types.specs.declared.address.Addr.TheVariants.{V4}
use Rattle.npf_fields.specs.Field.{number16, number32}
use Rattle.npf_packet.specs.declared.fragment_at.FragmentAt.{FragmentAt}
use Rattle.npf_packet.specs.Field.{ipv4_fragment, ipv4_protocol, ipv4_source, ipv4_destination}
use Rattle.npf_traffic.specs.declared.packet.Packet.{Packet}
use Rattle.npf_pieces.specs.declared.piece.FragKey.{FragKey}
use Rattle.npf_pieces.specs.declared.piece.Piece.{Piece}

abbrev pub ipv4_identification : ℕ
ipv4_identification = 4

module _ (packet : Packet) (found : FragmentAt) where
  -- the fields that name the datagram (RFC 791 section 2.3)
  abbrev pub key_v4 : FragKey
  key_v4 = record {
    ifid = packet.ifid;
    dir = packet.dir;
    src = V4 (number32 packet.bytes (found.ip_at + ipv4_source));
    dst = V4 (number32 packet.bytes (found.ip_at + ipv4_destination));
    proto = slice_index packet.bytes (found.ip_at + ipv4_protocol);
    id = number16 packet.bytes (found.ip_at + ipv4_identification);
  }

  abbrev pub fragment_field : ℕ
  fragment_field = number16 packet.bytes (found.ip_at + ipv4_fragment)

  -- what is carried is the data, and the header is all in front of it
  abbrev pub piece_v4 : Piece
  piece_v4 = record {
    key = key_v4;
    from = 8 * (fragment_field % 0x2000);
    last = fragment_field / 0x2000 % 2 == 0;
    ip_at = found.ip_at;
    next_at = 0;
    next = 0;
    head_end = found.at;
    data_at = found.at;
    end = found.end;
  }
