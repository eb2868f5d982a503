-- The header of IPv6 (RFC 8200 section 3), by the offsets of its fields:
--
--    0: version, traffic class and flow label
--    4: payload length   6: next header   7: hop limit
--    8: source address
--   24: destination address
--
-- An extension header begins with 0: next header, 1: length (RFC 8200 section 4.2, RFC 4302 section 2). A fragment header
-- has 8 bytes and begins with 0: next header (RFC 8200 section 4.5).
use Rattle.std.specs.Prelude.{◌≡◌, ℕ, ◌+◌, ◌*◌, ◌==◌, ◌||◌, nat_lt, if◌then◌else◌, Bool, Option, Some, None, Result, Ok, Err, MatchResult, List, length, slice_index}
use Rattle.npf_types.specs.declared.address.Addr.TheVariants.{V6}
use Rattle.npf_packet.specs.declared.decoded.Decoded.{Decoded}
use Rattle.npf_packet.specs.declared.decoded.Decoded.TheVariants.{Skip}
use Rattle.npf_packet.specs.declared.packet.IpPacket.{IpPacket}
use Rattle.npf_packet.specs.declared.ipv6.Header.{Header}
use Rattle.npf_fields.specs.Field.{number16, number128}
use Rattle.npf_packet.specs.Field.{ipv6_payload_length, ipv6_next_header, ipv6_source, ipv6_destination}
use Rattle.npf_packet.specs.Decoded.{cut}
use Rattle.npf_packet.specs.Chain.{IsChain}

-- hop-by-hop options (0), routing (43), authentication (51) and destination options (60)
abbrev pub is_extension : ℕ → Bool
is_extension kind = kind == 0 || kind == 43 || kind == 51 || kind == 60

-- an extension header's bytes: its length counts units of 8 beyond the first, in an authentication header units of 4
-- beyond the first two
abbrev pub extension_len : ℕ → ℕ → ℕ
extension_len kind len = if kind == 51 then 4 * (len + 2) else 8 * (len + 1)

-- the header behind an extension header that is whole before the packet's end: its kind is the one that this names in its
-- first byte
abbrev pub next_header : List ℕ → ℕ → Header → Option Header
next_header bytes end header =
    let next_at = header.at + extension_len header.kind (slice_index bytes (header.at + 1)) in
    if is_extension header.kind
    then (if nat_lt end (header.at + 2) then None
    else (if nat_lt end next_at then None
    else Some (record { kind = slice_index bytes header.at; named_at = header.at; at = next_at })))
    else None

-- the answer to a fragment header that begins here: it isn't looked into, where it is whole before the packet's end
abbrev pub fragment_answer : ℕ → ℕ → Decoded
fragment_answer end at = if nat_lt end (at + 8) then cut end else Skip

module _ (bytes : List ℕ) (ip_at : ℕ) where
  -- the length in bytes of what follows the header
  abbrev pub payload_len : ℕ
  payload_len = number16 bytes (ip_at + ipv6_payload_length)

  -- where the packet ends, whose payload's length doesn't count the header
  abbrev pub end_v6 : Result ℕ Decoded
  end_v6 =
      let end = ip_at + 40 + payload_len in
      if nat_lt (length bytes) (ip_at + 40) then Err (cut (length bytes))
      else (if nat_lt (length bytes) end then Err (cut (length bytes)) else Ok end)

  -- the header behind this one
  abbrev pub first_header : Header
  first_header = record {
    kind = slice_index bytes (ip_at + ipv6_next_header);
    named_at = ip_at + ipv6_next_header;
    at = ip_at + 40;
  }

  -- the headers from the first on are a chain of kinds and offsets, of which this is the last
  pub record HasLast (end : ℕ) (last : Header) : Type 0 where
    pub headers : List Header
    pub chain : IsChain (next_header bytes end) first_header headers last

  -- what the last header says: an extension header isn't whole, a fragment (44) isn't looked into, and any other kind
  -- is the protocol of what is carried
  abbrev pub behind_last : ℕ → Header → Result IpPacket Decoded
  behind_last end last =
      if is_extension last.kind then Err (cut end)
      else (if last.kind == 44 then Err (fragment_answer end last.at)
      else Ok (record {
        src = V6 (number128 bytes (ip_at + ipv6_source));
        dst = V6 (number128 bytes (ip_at + ipv6_destination));
        proto = last.kind;
        ip_at = ip_at;
        l4_at = last.at;
        end = end;
      }))

  -- what the headers say of a packet that is whole
  pub record IsBehindChain (end : ℕ) (header : Result IpPacket Decoded) : Type 0 where
    pub last : Header
    pub chain : HasLast end last
    pub says : header ≡ behind_last end last

  abbrev pub IsPacketV6 : Result IpPacket Decoded → Type 0
  IsPacketV6 header = MatchResult end_v6 (λ end. IsBehindChain end header) (λ answer. header ≡ Err answer)
