-- The text of an address: four decimal numbers without leading zeros (RFC 6943 section 3.1.1, the strict form), or an
-- IPv6 address (RFC 4291 section 2.2).
use Rattle.std.specs.Prelude.{◌≡◌, ℕ, List}
use Rattle.std.specs.declared.net.ip_addr.IpAddr.{IpAddr}
use Rattle.std.specs.declared.net.ip_addr.IpAddr.TheVariants as Ip
use Rattle.std.specs.Net.Addr.{ipv4_bits, ipv6_bits}
use Rattle.std.specs.Net.Grammar.{IsIpText}
use Rattle.npf_types.specs.declared.address.Addr.{Addr}
use Rattle.npf_types.specs.declared.address.Addr.TheVariants.{V4, V6}

-- the address as one number, its first byte the highest
abbrev pub addr_of : IpAddr → Addr
addr_of (Ip.V4 ip) = V4 (ipv4_bits ip)
addr_of (Ip.V6 ip) = V6 (ipv6_bits ip)

-- the text writes the address
pub record IsAddressText (text : List ℕ) (addr : Addr) : Type 0 where
  pub ip : IpAddr
  pub spelled : IsIpText text ip
  pub value : addr_of ip ≡ addr
