-- Where the parts of a decoded packet stand, for those who read and write its bytes by its facts
-- alone.
use Rattle.std.specs.Prelude.{◌≡◌, ℕ, ◌+◌, ◌≤◌, IfSome, ⊤}
use Rattle.npf_types.specs.declared.address.Addr.{Addr}
use Rattle.npf_types.specs.declared.address.Addr.TheVariants.{V4, V6}
use Rattle.npf_types.specs.declared.facts.Facts.{Facts}
use Rattle.npf_types.specs.declared.facts.L4.{L4}
use Rattle.npf_types.specs.declared.facts.L4.TheVariants.{Tcp, Udp, Icmp, Icmp6, Other}
use Rattle.npf_types.specs.declared.link.Link.{Link}
use Rattle.npf_packet.specs.Decoder.{packet_at}

-- an IP header without options has this many bytes (RFC 791 section 3.1, RFC 8200 section 3)
abbrev pub least_ip_header : Addr → ℕ
least_ip_header (V4 _) = 20
least_ip_header (V6 _) = 40

-- the header of what is carried has this many bytes without options (RFC 9293, RFC 768, RFC 792,
-- RFC 4443); of another protocol nothing is read
abbrev pub least_upper_header : L4 → ℕ
least_upper_header (Tcp _ _ _ _) = 20
least_upper_header (Udp _ _) = 8
least_upper_header (Icmp _ _ _) = 8
least_upper_header (Icmp6 _ _ _) = 8
least_upper_header Other = 0

-- an option's number of two bytes stands behind the fixed part of a segment's header, and in front
-- of the payload
pub record IsAmongOptions (facts : Facts) (payload at : ℕ) : Type 0 where
  pub after : facts.l4_at + 20 ≤ at
  pub before : at + 2 + payload ≤ facts.end

abbrev pub HasOptionAt : Facts → L4 → Type 0
HasOptionAt facts (Tcp _ _ segment mss_at) = IfSome mss_at (IsAmongOptions facts segment.len)
HasOptionAt facts (Udp _ _) = ⊤
HasOptionAt facts (Icmp _ _ _) = ⊤
HasOptionAt facts (Icmp6 _ _ _) = ⊤
HasOptionAt facts Other = ⊤

-- The parts follow one another: the link's header, the IP header, that of what is carried, and the
-- packet's end, which is no further than that of the `size` bytes of the record.
pub record HasPlaces (link : Link) (size : ℕ) (facts : Facts) : Type 0 where
  pub ip : facts.ip_at ≡ packet_at link
  pub upper : facts.ip_at + least_ip_header facts.src ≤ facts.l4_at
  pub upper_header : facts.l4_at + least_upper_header facts.l4 ≤ facts.end
  pub end : facts.end ≤ size
  pub option : HasOptionAt facts facts.l4
