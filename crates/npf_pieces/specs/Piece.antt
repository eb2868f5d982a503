-- What a packet is: no fragment, a fragment of no datagram, or a piece of one.
use Rattle.std.specs.Prelude.{◌≡◌, ℕ, ◌+◌, ◌-◌, ◌%◌, ◌≤◌, ◌<◌, ◌==◌, ◌&&◌, ◌||◌, ◌⊎◌, nat_lt, not, if◌then◌else◌, Bool, true, Option, Some, None, ⊤}
use Rattle.npf_types.specs.declared.address.Addr.{Addr}
use Rattle.npf_types.specs.declared.address.Addr.TheVariants.{V4, V6}
use Rattle.npf_packet.specs.declared.fragment_at.FragmentAt.{FragmentAt}
use Rattle.npf_packet.specs.FragmentAt.{FindsFragment}
use Rattle.npf_packet.specs.Place.{least_ip_header}
use Rattle.npf_traffic.specs.declared.packet.Packet.{Packet}
use Rattle.npf_pieces.specs.declared.piece.Piece.{Piece}
use Rattle.npf_pieces.specs.declared.piece.Seen.{Seen}
use Rattle.npf_pieces.specs.Ipv4.{piece_v4}
use Rattle.npf_pieces.specs.Ipv6.{piece_v6}

-- how many bytes of data it has
abbrev pub length_of : Piece → ℕ
length_of piece = piece.end - piece.data_at

-- where they end in the datagram's data
abbrev pub end_of : Piece → ℕ
end_of piece = piece.from + length_of piece

-- it begins the datagram and ends it
abbrev pub is_all : Piece → Bool
is_all piece = piece.from == 0 && piece.last

-- data that others follow fill units of 8 bytes
abbrev pub is_torn : Piece → Bool
is_torn piece = not piece.last && not (length_of piece % 8 == 0)

-- it is a piece of no datagram: it is torn, or it is empty and not all of its datagram, or it ends behind the last byte that
-- 16 bits of length can count (RFC 791 section 3.2, RFC 8200 section 4.5)
abbrev pub is_bad : Piece → Bool
is_bad piece = is_torn piece || (length_of piece == 0 && not (is_all piece)) || nat_lt 65535 (end_of piece)

-- what the fragment that is found in the packet says
abbrev pub piece_at : Packet → FragmentAt → Piece
piece_at packet found = if found.v6 then piece_v6 packet found else piece_v4 packet found

abbrev pub seen_at : Packet → Option FragmentAt → Seen
seen_at packet None = Seen.NoFragment
seen_at packet (Some found) =
    if is_bad (piece_at packet found) then Seen.Bad else Seen.Piece (piece_at packet found)

-- the packet is seen as this
pub record SeenAs (packet : Packet) (seen : Seen) : Type 0 where
  pub found : Option FragmentAt
  pub finds : FindsFragment packet.link packet.bytes found
  pub is : seen ≡ seen_at packet found

-- what holds of a piece, where the packet is one
abbrev pub IfPiece : (Piece → Type 0) → Seen → Type 0
IfPiece holds Seen.NoFragment = ⊤
IfPiece holds Seen.Bad = ⊤
IfPiece holds (Seen.Piece piece) = holds piece

-- it begins with one of the 8192 units of 8 bytes that an offset can tell
pub record BeginsUnit (piece : Piece) : Type 0 where
  pub unit : piece.from % 8 ≡ 0
  pub within : piece.from ≤ 65528

-- a piece begins with a unit of 8 bytes, and unless it is the last it ends with one; it has data unless it is all; and its
-- data end within the datagram's most
pub record IsGood (piece : Piece) : Type 0 where
  pub begins : piece.from % 8 ≡ 0
  pub ends : (piece.last ≡ true) ⊎ (length_of piece % 8 ≡ 0)
  pub filled : (is_all piece ≡ true) ⊎ (1 ≤ length_of piece)
  pub within : end_of piece ≤ 65535

-- in IPv6 alone a byte of the IP headers names the fragment header
abbrev pub named_from : Addr → ℕ → ℕ
named_from (V4 _) ip_at = 0
named_from (V6 _) ip_at = ip_at

-- its parts follow one another within the packet's bytes, of which there are `size`
pub record IsPlacedPiece (size : ℕ) (piece : Piece) : Type 0 where
  pub header : piece.ip_at + least_ip_header piece.key.src ≤ piece.head_end
  pub «data» : piece.head_end ≤ piece.data_at
  pub end : piece.data_at ≤ piece.end
  pub within : piece.end ≤ size
  pub named : piece.next_at < piece.head_end
  pub behind : named_from piece.key.src piece.ip_at ≤ piece.next_at

-- for each packet there is one answer
abbrev pub OneSeeing : Type 0
OneSeeing = (packet : Packet) (one other : Seen) → SeenAs packet one → SeenAs packet other → one ≡ other
