-- A fragment of IPv6 (RFC 8200 section 4.5). Its fragment header has 0: next header, 2: offset field, whose upper 13 bits
-- count units of 8 bytes and whose lowest bit says that more fragments follow, 4: identification, and 8: the data.
use Rattle.std.specs.Prelude.{ℕ, ◌+◌, ◌*◌, ◌/◌, ◌%◌, ◌==◌, slice_index}
use Rattle.npf_types.specs.declared.address.Addr.TheVariants.{V6}
use Rattle.npf_fields.specs.Field.{number16, number32, number128}
use Rattle.npf_packet.specs.declared.fragment_at.FragmentAt.{FragmentAt}
use Rattle.npf_packet.specs.Field.{ipv6_source, ipv6_destination}
use Rattle.npf_traffic.specs.declared.packet.Packet.{Packet}
use Rattle.npf_pieces.specs.declared.piece.FragKey.{FragKey}
use Rattle.npf_pieces.specs.declared.piece.Piece.{Piece}

module _ (packet : Packet) (found : FragmentAt) where
  -- the fields that name the datagram: the fragments of one may name different next headers
  abbrev pub key_v6 : FragKey
  key_v6 = record {
    ifid = packet.ifid;
    dir = packet.dir;
    src = V6 (number128 packet.bytes (found.ip_at + ipv6_source));
    dst = V6 (number128 packet.bytes (found.ip_at + ipv6_destination));
    proto = 0;
    id = number32 packet.bytes (found.at + 4);
  }

  abbrev pub offset_field : ℕ
  offset_field = number16 packet.bytes (found.at + 2)

  -- what stands in front of the fragment header is the datagram's, and what it names is behind it
  abbrev pub piece_v6 : Piece
  piece_v6 = record {
    key = key_v6;
    from = 8 * (offset_field / 8);
    last = offset_field % 2 == 0;
    ip_at = found.ip_at;
    next_at = found.named_at;
    next = slice_index packet.bytes found.at;
    head_end = found.at;
    data_at = found.at + 8;
    end = found.end;
  }
