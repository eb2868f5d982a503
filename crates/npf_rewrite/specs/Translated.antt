-- What a translation writes (npf.conf(5), "Map"; RFC 3022 section 4.1). The pictures of the headers
-- are those of RFC 791, 8200, 9293, 768, 792 and 4443, whose offsets npf_packet names.
use Rattle.std.specs.Prelude.{ℕ, ◌+◌, ◌==◌, if◌then◌else◌, Option, Some, None, List, [], ◌++◌}
use Rattle.std.specs.Option.{option_or}
use Rattle.npf_types.specs.declared.address.Addr.{Addr}
use Rattle.npf_types.specs.declared.address.Addr.TheVariants.{V4, V6}
use Rattle.npf_types.specs.declared.change.Change.{Change}
use Rattle.npf_types.specs.declared.facts.Facts.{Facts}
use Rattle.npf_types.specs.declared.facts.L4.{L4}
use Rattle.npf_types.specs.declared.facts.L4.TheVariants.{Tcp, Udp, Icmp, Icmp6, Other}
use Rattle.npf_fields.specs.Field.{number16}
use Rattle.npf_key.specs.Translated.{fitting, named_port}
use Rattle.npf_packet.specs.Field.{ipv4_source, ipv4_destination, ipv4_checksum, ipv6_source, ipv6_destination, l4_source_port, l4_destination_port, tcp_checksum, udp_checksum, icmp_checksum, icmp_identifier}
use Rattle.npf_rewrite.specs.declared.translated.NewEnds.{NewEnds}
use Rattle.npf_rewrite.specs.declared.word.WordAt.{WordAt}
use Rattle.npf_rewrite.specs.Address.{end_words}
use Rattle.npf_rewrite.specs.Room.{HasRoom}
use Rattle.npf_rewrite.specs.Sum.{sum_after}
use Rattle.npf_rewrite.specs.Word.{AllWithin, Rewrites, named_word, word, word_list}

-- the ends that a change names, where their addresses are of the packet's family
abbrev pub new_ends : Facts → Change → NewEnds
new_ends facts change =
    record { src = fitting facts.src change.src; dst = fitting facts.src change.dst }

-- where the addresses stand in a header of this address's family
abbrev pub source_at : ℕ → Addr → ℕ
source_at ip_at (V4 _) = ip_at + ipv4_source
source_at ip_at (V6 _) = ip_at + ipv6_source

abbrev pub destination_at : ℕ → Addr → ℕ
destination_at ip_at (V4 _) = ip_at + ipv4_destination
destination_at ip_at (V6 _) = ip_at + ipv6_destination

-- the addresses that are named
abbrev pub address_writes : Facts → NewEnds → List WordAt
address_writes facts ends =
    end_words (source_at facts.ip_at facts.src) ends.src
    ++ end_words (destination_at facts.ip_at facts.src) ends.dst

module _ (at : ℕ) (sport dport : Option ℕ) where
  -- an echo message has its identifier for a port, which either side names: the source where both do
  abbrev pub identifier_write : Option ℕ → Option WordAt
  identifier_write (Some _) = named_word (at + icmp_identifier) (option_or sport dport)
  identifier_write None = None

  -- the source's port that is named, or the identifier
  abbrev pub source_write : L4 → Option WordAt
  source_write (Tcp _ _ _ _) = named_word (at + l4_source_port) sport
  source_write (Udp _ _) = named_word (at + l4_source_port) sport
  source_write (Icmp _ _ echo) = identifier_write echo
  source_write (Icmp6 _ _ echo) = identifier_write echo
  source_write Other = None

  -- the destination's port that is named
  abbrev pub destination_write : L4 → Option WordAt
  destination_write (Tcp _ _ _ _) = named_word (at + l4_destination_port) dport
  destination_write (Udp _ _) = named_word (at + l4_destination_port) dport
  destination_write (Icmp _ _ _) = None
  destination_write (Icmp6 _ _ _) = None
  destination_write Other = None

-- the ports that are named
abbrev pub port_writes : Facts → NewEnds → List WordAt
port_writes facts ends =
    word_list (source_write facts.l4_at (named_port ends.src) (named_port ends.dst) facts.l4)
    ++ word_list (destination_write facts.l4_at (named_port ends.src) (named_port ends.dst) facts.l4)

-- the sum of a header of IPv4; one of IPv6 has none
abbrev pub header_sum : List ℕ → ℕ → Addr → List WordAt → Option WordAt
header_sum bytes ip_at (V4 _) written =
    let at = ip_at + ipv4_checksum in Some (word at (sum_after 0 bytes written (number16 bytes at)))
header_sum bytes ip_at (V6 _) written = None

-- where the sum of what is carried stands
abbrev pub upper_sum_at : ℕ → L4 → Option ℕ
upper_sum_at at (Tcp _ _ _ _) = Some (at + tcp_checksum)
upper_sum_at at (Udp _ _) = Some (at + udp_checksum)
upper_sum_at at (Icmp _ _ _) = Some (at + icmp_checksum)
upper_sum_at at (Icmp6 _ _ _) = Some (at + icmp_checksum)
upper_sum_at at Other = None

-- what is named of this packet lies within `size` bytes
pub record FitsWithin (size : ℕ) (facts : Facts) (ends : NewEnds) : Type 0 where
  pub room : HasRoom size facts
  pub src : AllWithin size (end_words (source_at facts.ip_at facts.src) ends.src)
  pub dst : AllWithin size (end_words (destination_at facts.ip_at facts.src) ends.dst)
  pub source : AllWithin size (word_list (source_write facts.l4_at (named_port ends.src) (named_port ends.dst) facts.l4))
  pub destination : AllWithin size (word_list (destination_write facts.l4_at (named_port ends.src) (named_port ends.dst) facts.l4))

-- That sum once addresses and ports are written. The sums of TCP, UDP and ICMPv6 count the
-- addresses in a pseudo-header, and that of ICMP doesn't (RFC 9293 section 3.1, RFC 768, RFC 8200
-- section 8.1, RFC 792). In UDP over IPv4 a sum of 0 says that there is none, and stays.
abbrev pub upper_sum_after : List ℕ → Addr → L4 → List WordAt → List WordAt → ℕ → ℕ
upper_sum_after bytes src (Tcp _ _ _ _) addresses ports sum =
    sum_after 0 bytes (addresses ++ ports) sum
upper_sum_after bytes (V4 _) (Udp _ _) addresses ports sum =
    if sum == 0 then 0 else sum_after 0xffff bytes (addresses ++ ports) sum
upper_sum_after bytes (V6 _) (Udp _ _) addresses ports sum =
    sum_after 0xffff bytes (addresses ++ ports) sum
upper_sum_after bytes src (Icmp _ _ _) addresses ports sum = sum_after 0 bytes ports sum
upper_sum_after bytes src (Icmp6 _ _ _) addresses ports sum =
    sum_after 0 bytes (addresses ++ ports) sum
upper_sum_after bytes src Other addresses ports sum = sum

abbrev pub sum_write : List ℕ → Facts → NewEnds → Option ℕ → Option WordAt
sum_write bytes facts ends (Some at) =
    Some (word at (upper_sum_after bytes facts.src facts.l4 (address_writes facts ends)
    (port_writes facts ends) (number16 bytes at)))
sum_write bytes facts ends None = None

abbrev pub upper_sum : List ℕ → Facts → NewEnds → Option WordAt
upper_sum bytes facts ends = sum_write bytes facts ends (upper_sum_at facts.l4_at facts.l4)

-- the addresses and ports that are named
abbrev pub named_writes : Facts → NewEnds → List WordAt
named_writes facts ends = address_writes facts ends ++ port_writes facts ends

-- the sums that follow them
abbrev pub sum_writes : List ℕ → Facts → NewEnds → List WordAt
sum_writes bytes facts ends =
    word_list (header_sum bytes facts.ip_at facts.src (address_writes facts ends))
    ++ word_list (upper_sum bytes facts ends)

-- a change that is neutral keeps the sum of the addresses, so no sum follows (RFC 6296 section 3.6)
abbrev pub translated_words : List ℕ → Facts → Change → List WordAt
translated_words bytes facts change =
    named_writes facts (new_ends facts change)
    ++ (if change.neutral then [] else sum_writes bytes facts (new_ends facts change))

-- the bytes of the packet with these facts are these once the change is made
abbrev pub Translated : List ℕ → Facts → Change → List ℕ → Type 0
Translated bytes facts change translated =
    Rewrites bytes (translated_words bytes facts change) translated
