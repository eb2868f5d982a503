-- The datagram that the pieces of a whole set make (RFC 791 section 3.2, RFC 8200 section 4.5): the header of the one that
-- begins it, and all data in order.
-- READ 12 of docs/READING.md
use Rattle.std.specs.Prelude.{◌≡◌, ◌≢◌, ℕ, ◌+◌, ◌-◌, ◌%◌, ◌<◌, ◌≤◌, ◌⊎◌, false, true, List, [], ◌++◌, All, AllPairs, Contains, length, slice_index, slice_index_or, slice_range}
use Rattle.npf_types.specs.declared.address.Addr.{Addr}
use Rattle.npf_types.specs.declared.address.Addr.TheVariants.{V4, V6}
use Rattle.npf_fields.specs.Checksum.{adjusted_sum}
use Rattle.npf_fields.specs.Field.{number16}
use Rattle.npf_packet.specs.Field.{ipv4_total_length, ipv4_fragment, ipv4_checksum, ipv6_payload_length}
use Rattle.npf_traffic.specs.declared.packet.Packet.{Packet}
use Rattle.npf_pieces.specs.declared.arrived.Arrived.{Arrived}
use Rattle.npf_pieces.specs.declared.arrived.Ending.TheVariants.{Complete}
use Rattle.npf_pieces.specs.declared.piece.Piece.{Piece}
use Rattle.npf_pieces.specs.declared.piece.Seen.{Seen}
use Rattle.npf_pieces.specs.Overlap.{IsTaken}
use Rattle.npf_pieces.specs.Piece.{IsGood, IsPlacedPiece, SeenAs, end_of}
use Rattle.npf_pieces.specs.Sets.{Set, header_counted, is_too_long, is_whole, reach, sets_from, shares_byte}

-- none of the pieces shares a byte with another, every byte is there, and the datagram isn't too long
pub record IsWholeSet (set : List Arrived) : Type 0 where
  pub taken : All IsTaken set
  pub apart : AllPairs (λ a b. shares_byte a b ≡ false) set
  pub whole : is_whole set ≡ true
  pub short : is_too_long set ≡ false

-- each set that ends complete is whole
abbrev pub WholeIfComplete : Set → Type 0
WholeIfComplete set = set.ending ≡ Complete → IsWholeSet set.pieces

abbrev pub CompleteIsWhole : Type 0
CompleteIsWhole = (arrived : List Arrived) → All IsTaken arrived → All WholeIfComplete (sets_from [] arrived)

-- the packet is this piece
pub record IsPieceOf (packet : Packet) (piece : Piece) : Type 0 where
  pub seen : SeenAs packet (Seen.Piece piece)
  pub good : IsGood piece
  pub placed : IsPlacedPiece (length packet.bytes) piece

-- the header of IPv4 that is given on: its total length and its fragment field are new, where the bits of the fragment are
-- cleared; its sum is adjusted by both (RFC 1624); and every other byte is as it was
pub record IsHeaderV4 (old new : List ℕ) (total : ℕ) : Type 0 where
  pub count : length new ≡ length old
  pub told : number16 new ipv4_total_length ≡ total
  pub fragment : number16 new ipv4_fragment ≡ number16 old ipv4_fragment - number16 old ipv4_fragment % 0x4000
  pub sum : number16 new ipv4_checksum ≡ adjusted_sum (adjusted_sum (number16 old ipv4_checksum) (number16 old ipv4_total_length) total)
      (number16 old ipv4_fragment) (number16 old ipv4_fragment - number16 old ipv4_fragment % 0x4000)
  pub rest : (at : ℕ) → at ≢ 2 → at ≢ 3 → at ≢ 6 → at ≢ 7 → at ≢ 10 → at ≢ 11 → slice_index new at ≡ slice_index old at

-- the headers of IPv6 in front of the fragment header that are given on: the payload's length is new, the byte at `named_at`,
-- which named the fragment header and is none of the length's, names what that one did, and every other byte is as it was
pub record IsHeaderV6 (old new : List ℕ) (payload named_at next : ℕ) : Type 0 where
  pub count : length new ≡ length old
  pub told : number16 new ipv6_payload_length ≡ payload
  pub named : named_at ≢ 4 → named_at ≢ 5 → slice_index new named_at ≡ next
  pub rest : (at : ℕ) → at ≢ 4 → at ≢ 5 → at ≢ named_at → slice_index new at ≡ slice_index old at

-- the header that is given on, by its version, where the datagram tells this length
abbrev pub IsHeaderOf : Addr → Piece → List ℕ → List ℕ → ℕ → Type 0
IsHeaderOf (V4 _) piece old new told = IsHeaderV4 old new told
IsHeaderOf (V6 _) piece old new told = IsHeaderV6 old new told (piece.next_at - piece.ip_at) piece.next

-- all bytes are kept but those from a place on up to another
abbrev pub KeepsOthers : List ℕ → List ℕ → ℕ → ℕ → Type 0
KeepsOthers old new from to = (a b : ℕ) → (b ≤ from) ⊎ (to ≤ a) → slice_range new a b ≡ slice_range old a b

module _ (packets : List Packet) where
  -- it is the piece that the packet of its place is
  pub record StandsAmong (a : Arrived) : Type 0 where
    pub here : a.place < length packets
    pub is : (d : Packet) → IsPieceOf (slice_index_or packets a.place d) a.piece

  -- some bytes of its packet
  pub record HasPacketBytes (a : Arrived) (from to : ℕ) (bytes : List ℕ) : Type 0 where
    pub is : (d : Packet) → bytes ≡ slice_range (slice_index_or packets a.place d).bytes from to

  -- its data stand at their place among the datagram's
  abbrev pub HasDataAt : List ℕ → Arrived → Type 0
  HasDataAt carried a = HasPacketBytes a a.piece.data_at a.piece.end (slice_range carried a.piece.from (end_of a.piece))

  -- the datagram of a set
  pub record IsDatagram (set : List Arrived) (bytes : List ℕ) : Type 0 where
    pub first : Arrived
    pub among : Contains set first
    pub begins : first.piece.from ≡ 0
    pub old : List ℕ
    pub has_old : HasPacketBytes first first.piece.ip_at first.piece.head_end old
    pub header : List ℕ
    pub carried : List ℕ
    pub is : bytes ≡ header ++ carried
    pub headed : IsHeaderOf first.piece.key.src first.piece old header (header_counted first.piece + reach set)
    pub long : length carried ≡ reach set
    pub filled : All (HasDataAt carried) set
