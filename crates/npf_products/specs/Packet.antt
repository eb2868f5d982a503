-- A packet with given numbers: what no rule asks is 0.
use Rattle.std.specs.Prelude.{◌≡◌, ℕ, ◌%◌, ◌^◌, nat_lt, if◌then◌else◌, None}
use Rattle.npf_types.specs.declared.address.Addr.{Addr}
use Rattle.npf_types.specs.declared.address.Addr.TheVariants.{V4, V6}
use Rattle.npf_types.specs.declared.direction.Dir.{Dir}
use Rattle.npf_types.specs.declared.direction.Dir.TheVariants.{In, Out}
use Rattle.npf_types.specs.declared.facts.L4.{L4}
use Rattle.npf_types.specs.declared.facts.L4.TheVariants.{Tcp, Udp, Icmp, Icmp6, Other}
use Rattle.npf_types.specs.declared.facts.Segment.{Segment}
use Rattle.npf_products.specs.declared.kind.Carried.{Carried}
use Rattle.npf_products.specs.declared.kind.Carried.TheVariants.{Tcp as OfTcp, Udp as OfUdp, Icmp as OfIcmp, Other as OfOther}
use Rattle.npf_products.specs.declared.kind.IpFamily.{IpFamily}
use Rattle.npf_products.specs.declared.kind.IpFamily.TheVariants.{Inet4, Inet6}

abbrev pub address_with : IpFamily → ℕ → Addr
address_with Inet4 number = V4 (number % 2 ^ 32)
address_with Inet6 number = V6 number

abbrev pub place_dir : ℕ → Dir
place_dir place = if nat_lt place (2 ^ 16) then In else Out

abbrev pub segment_with : ℕ → Segment
segment_with flags = record { flags = flags; seq = 0; ack = 0; win = 0; len = 0; scale = None }

abbrev pub icmp_with : IpFamily → ℕ → ℕ → L4
icmp_with Inet4 kind code = Icmp kind code None
icmp_with Inet6 kind code = Icmp6 kind code None

abbrev pub l4_of : Carried → IpFamily → ℕ → ℕ → ℕ → L4
l4_of OfTcp family first second control = Tcp (first % 2 ^ 16) (second % 2 ^ 16) (segment_with (control % 2 ^ 8)) None
l4_of OfUdp family first second control = Udp (first % 2 ^ 16) (second % 2 ^ 16)
l4_of OfIcmp family first second control = icmp_with family (first % 2 ^ 8) (second % 2 ^ 8)
l4_of OfOther family first second control = Other

-- the protocol of a kind, or else its first number
abbrev pub IsProtocol : IpFamily → Carried → ℕ → ℕ → Type 0
IsProtocol family OfTcp first proto = proto ≡ 6
IsProtocol family OfUdp first proto = proto ≡ 17
IsProtocol Inet4 OfIcmp first proto = proto ≡ 1
IsProtocol Inet6 OfIcmp first proto = proto ≡ 58
IsProtocol family OfOther first proto = proto ≡ first
