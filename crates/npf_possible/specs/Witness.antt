-- A packet that shows possible facts: headers without options, and no payload.
use Rattle.std.specs.Prelude.{ℕ, ◌+◌, ◌*◌, ◌^◌, ◌==◌, if◌then◌else◌, List, [], ◌∷◌, ◌++◌, length}
use Rattle.npf_types.specs.declared.address.Addr.{Addr}
use Rattle.npf_types.specs.declared.address.Addr.TheVariants.{V4, V6}
use Rattle.npf_types.specs.declared.facts.Facts.{Facts}
use Rattle.npf_types.specs.declared.facts.L4.{L4}
use Rattle.npf_types.specs.declared.facts.L4.TheVariants.{Tcp, Udp, Icmp, Icmp6, Other}
use Rattle.byteorder.specs.Endian.{big_bytes}
use Rattle.npf_fields.specs.Checksum.{complement16, end_around}

-- the words of 16 bits, the higher byte first, added up; a byte that is left is the upper half of one (RFC 1071 section 1)
abbrev pub sum_of_pairs : List ℕ → ℕ
sum_of_pairs [] = 0
sum_of_pairs (x ∷ []) = 2 ^ 8 * x
sum_of_pairs (x ∷ y ∷ rest) = 2 ^ 8 * x + y + sum_of_pairs rest

-- the sum that a header carries for these bytes, in which its own place counts as 0
abbrev pub checksum_of : List ℕ → ℕ
checksum_of bytes = complement16 (end_around (sum_of_pairs bytes))

abbrev pub address_bytes : Addr → List ℕ
address_bytes (V4 a) = big_bytes 4 a
address_bytes (V6 a) = big_bytes 16 a

-- what is carried, with this sum: TCP with a data offset of 5 words and a window of 0 (RFC 9293 section 3.1), UDP with its length (RFC
-- 768), a message of ICMP or ICMPv6 with four bytes behind its sum (RFC 792, RFC 4443), or nothing
abbrev pub upper_bytes : L4 → ℕ → List ℕ
upper_bytes (Tcp sport dport segment mss_at) sum =
    big_bytes 2 sport ++ big_bytes 2 dport ++ big_bytes 4 0 ++ big_bytes 4 0 ++ 0x50 ∷ segment.flags ∷ [] ++ big_bytes 2 0 ++ big_bytes 2 sum ++ big_bytes 2 0
upper_bytes (Udp sport dport) sum = big_bytes 2 sport ++ big_bytes 2 dport ++ big_bytes 2 8 ++ big_bytes 2 sum
upper_bytes (Icmp kind code echo) sum = kind ∷ code ∷ [] ++ big_bytes 2 sum ++ big_bytes 4 0
upper_bytes (Icmp6 kind code echo) sum = kind ∷ code ∷ [] ++ big_bytes 2 sum ++ big_bytes 4 0
upper_bytes Other sum = []

-- a pseudo-header: both addresses, the protocol, and the length of what is carried (RFC 9293 section 3.1, RFC 768, RFC 8200 section 8.1)
abbrev pub pseudo_bytes : Facts → List ℕ
pseudo_bytes facts = address_bytes facts.src ++ address_bytes facts.dst ++ big_bytes 2 facts.proto ++ big_bytes 2 (length (upper_bytes facts.l4 0))

-- the sum of what is carried counts a pseudo-header, but in ICMP (RFC 792); a sum of UDP that comes to 0 is written 0xFFFF (RFC 768)
abbrev pub carried_checksum : Facts → L4 → ℕ
carried_checksum facts (Icmp kind code echo) = checksum_of (upper_bytes facts.l4 0)
carried_checksum facts (Udp sport dport) =
    let sum = checksum_of (pseudo_bytes facts ++ upper_bytes facts.l4 0) in if sum == 0 then 0xffff else sum
carried_checksum facts _ = checksum_of (pseudo_bytes facts ++ upper_bytes facts.l4 0)

-- a header of IPv4 with this sum: version 4 and five words, the packet's length, no fragment, time to live 64 (RFC 791 section 3.1)
abbrev pub ipv4_bytes : Facts → ℕ → List ℕ
ipv4_bytes facts sum =
    0x45 ∷ 0 ∷ [] ++ big_bytes 2 (20 + length (upper_bytes facts.l4 0)) ++ big_bytes 4 0 ++ 64 ∷ facts.proto ∷ [] ++ big_bytes 2 sum
    ++ address_bytes facts.src ++ address_bytes facts.dst

-- a header of IPv6: version 6, the length of what follows, the protocol, hop limit 64 (RFC 8200 section 3)
abbrev pub ipv6_bytes : Facts → List ℕ
ipv6_bytes facts =
    0x60 ∷ 0 ∷ 0 ∷ 0 ∷ [] ++ big_bytes 2 (length (upper_bytes facts.l4 0)) ++ facts.proto ∷ 64 ∷ []
    ++ address_bytes facts.src ++ address_bytes facts.dst

abbrev pub ip_header : Addr → Facts → List ℕ
ip_header (V4 src) facts = ipv4_bytes facts (checksum_of (ipv4_bytes facts 0))
ip_header (V6 src) facts = ipv6_bytes facts

abbrev pub witness_bytes : Facts → List ℕ
witness_bytes facts = ip_header facts.src facts ++ upper_bytes facts.l4 (carried_checksum facts facts.l4)
