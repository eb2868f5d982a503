-- Datagrams of UDP over IPv4 (RFC 768, RFC 791 section 3.1) without options and without payload, by their words of 16 bits.
use Rattle.std.specs.Prelude.{ℕ, ◌+◌, ◌/◌, ◌%◌, ◌^◌, ◌==◌, if◌then◌else◌, List, [], ◌∷◌, ◌++◌, sum}
use Rattle.std.specs.List.{flat_map}
use Rattle.byteorder.specs.Endian.{big_bytes}
use Rattle.npf_fields.specs.Checksum.{complement16, end_around}
use Rattle.npf_gen.specs.declared.datagram.Datagram.{Datagram}

-- what three draws tell: one of 4,096 hosts from 10.0.0.0 on and one of 60,000 ports from 1024 on, to port 53 of one of 64 hosts
-- from 198.51.100.0 on
abbrev pub datagram_of : ℕ → ℕ → ℕ → Datagram
datagram_of host port server = record {
  src = 0x0a000000 + host % 4096;
  sport = 1024 + port % 60000;
  dst = 0xc6336400 + server % 64;
  dport = 53;
}

-- the upper and the lower half of an address
abbrev pub halves : ℕ → List ℕ
halves address = address / 2 ^ 16 ∷ address % 2 ^ 16 ∷ []

module _ (d : Datagram) where
  -- the header of IPv4 with a sum: version 4 and a length of 5, with type of service 0; total length 28; identification 0;
  -- fragment field 0; time to live 64, with protocol 17; the sum; both addresses
  abbrev pub ipv4_words : ℕ → List ℕ
  ipv4_words total = 0x4500 ∷ 28 ∷ 0 ∷ 0 ∷ 0x4011 ∷ total ∷ (halves d.src ++ halves d.dst)

  -- the header of UDP with a sum: both ports, length 8, the sum
  abbrev pub udp_words : ℕ → List ℕ
  udp_words total = d.sport ∷ d.dport ∷ 8 ∷ total ∷ []

  -- the pseudo-header of UDP: both addresses, protocol 17, length 8
  abbrev pub pseudo_words : List ℕ
  pseudo_words = halves d.src ++ halves d.dst ++ 17 ∷ 8 ∷ []

-- the Internet checksum of words (RFC 1071): the one's complement of their sum with end-around carry
abbrev pub internet_sum : List ℕ → ℕ
internet_sum words = complement16 (end_around (sum words))

-- words as bytes, the higher byte of each first
abbrev pub word_bytes : List ℕ → List ℕ
word_bytes words = flat_map (big_bytes 2) words

module _ (d : Datagram) where
  -- the sum of the header of IPv4, in which its own place counts as 0
  abbrev pub ipv4_sum : ℕ
  ipv4_sum = internet_sum (ipv4_words d 0)

  -- the sum of UDP, which counts the pseudo-header too; one that comes to 0 is written 0xFFFF, since 0 says that there is none
  abbrev pub udp_sum : ℕ
  udp_sum = let total = internet_sum (pseudo_words d ++ udp_words d 0) in if total == 0 then 0xffff else total

  abbrev pub datagram_bytes : List ℕ
  datagram_bytes = word_bytes (ipv4_words d ipv4_sum) ++ word_bytes (udp_words d udp_sum)
