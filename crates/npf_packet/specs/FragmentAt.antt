-- Whether a record is a fragment, and where it has what tells so: in IPv4 the header itself (RFC 791 section 3.1), in IPv6 a
-- fragment header (44), which ends the chain of headers (RFC 8200 section 4.5).
use Rattle.std.specs.Prelude.{◌≡◌, ℕ, ◌+◌, ◌<◌, ◌≤◌, ◌==◌, ◌&&◌, nat_le, if◌then◌else◌, Bool, true, false, Option, Some, None, MatchResult, List}
use Rattle.npf_types.specs.declared.link.Link.{Link}
use Rattle.npf_packet.specs.declared.decoded.Decoded.TheVariants.{Skip}
use Rattle.npf_packet.specs.declared.fragment_at.FragmentAt.{FragmentAt}
use Rattle.npf_packet.specs.declared.ipv6.Header.{Header}
use Rattle.npf_packet.specs.declared.packet.IpPacket.{IpPacket}
use Rattle.npf_packet.specs.declared.version.Version.{Version}
use Rattle.npf_packet.specs.declared.version.Version.TheVariants.{V4, V6}
use Rattle.npf_packet.specs.Decoder.{Decodes, packet_at, version_behind}
use Rattle.npf_packet.specs.Ipv4.{is_fragment, whole_v4}
use Rattle.npf_packet.specs.Ipv6.{HasLast, end_v6}

-- a packet of IPv4, if it is a fragment: what it carries begins behind the header
abbrev pub fragment_v4 : List ℕ → ℕ → IpPacket → Option FragmentAt
fragment_v4 bytes ip_at packet =
    if is_fragment bytes ip_at
    then Some (record { v6 = false; ip_at = ip_at; named_at = 0; at = packet.l4_at; end = packet.end })
    else None

-- a packet of IPv6 whose last header is this, if that is a fragment header of which all 8 bytes stand before the end
abbrev pub fragment_v6 : ℕ → ℕ → Header → Option FragmentAt
fragment_v6 ip_at end last =
    if last.kind == 44 && nat_le (last.at + 8) end
    then Some (record { v6 = true; ip_at = ip_at; named_at = last.named_at; at = last.at; end = end })
    else None

-- what is found behind a chain of headers
pub record FindsBehindChain (bytes : List ℕ) (ip_at end : ℕ) (found : Option FragmentAt) : Type 0 where
  pub last : Header
  pub chain : HasLast bytes ip_at end last
  pub is : found ≡ fragment_v6 ip_at end last

-- what is found in the packet whose IP header begins here; one that is cut or bad is no fragment
abbrev pub FindsIn : Version → List ℕ → ℕ → Option FragmentAt → Type 0
FindsIn V4 bytes ip_at found =
    MatchResult (whole_v4 bytes ip_at) (λ packet. found ≡ fragment_v4 bytes ip_at packet) (λ answer. found ≡ None)
FindsIn V6 bytes ip_at found =
    MatchResult (end_v6 bytes ip_at) (λ end. FindsBehindChain bytes ip_at end found) (λ answer. found ≡ None)

-- what is found in a record of this link with these bytes
abbrev pub FindsFragment : Link → List ℕ → Option FragmentAt → Type 0
FindsFragment link bytes found =
    MatchResult (version_behind link bytes) (λ version. FindsIn version bytes (packet_at link) found) (λ answer. found ≡ None)

-- the header of IP has at least this many bytes, and a fragment header this many, which only IPv6 has
abbrev pub least_header : Bool → ℕ
least_header v6 = if v6 then 40 else 20

abbrev pub fragment_header : Bool → ℕ
fragment_header v6 = if v6 then 8 else 0

-- a fragment header is named behind the first byte of the IP header
abbrev pub least_named_at : Bool → ℕ → ℕ
least_named_at v6 ip_at = if v6 then ip_at else 0

-- the parts of a fragment whose IP header begins here follow one another within the record's bytes, of which there are `size`
pub record IsPlacedFragment (ip_at size : ℕ) (found : FragmentAt) : Type 0 where
  pub ip : found.ip_at ≡ ip_at
  pub header : found.ip_at + least_header found.v6 ≤ found.at
  pub fragment : found.at + fragment_header found.v6 ≤ found.end
  pub end : found.end ≤ size
  pub named_behind : least_named_at found.v6 found.ip_at ≤ found.named_at
  pub named_before : found.named_at < found.at

-- in each record one answer is found
abbrev pub OneFragment : Type 0
OneFragment =
    (link : Link) (bytes : List ℕ) (one other : Option FragmentAt)
    → FindsFragment link bytes one → FindsFragment link bytes other → one ≡ other

-- a fragment isn't looked into
abbrev pub FragmentIsSkipped : Type 0
FragmentIsSkipped =
    (link : Link) (bytes : List ℕ) (found : FragmentAt)
    → FindsFragment link bytes (Some found) → Decodes link bytes Skip
