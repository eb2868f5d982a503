-- Where a record has its IP packet, which the IP header's version and length tell.
use Rattle.std.specs.Prelude.{◌≡◌, ℕ, ◌+◌, ◌==◌, if◌then◌else◌, List}
use Rattle.npf_types.specs.declared.facts.Facts.{Facts}
use Rattle.npf_packet.specs.declared.extent.IpExtent.{IpExtent}
use Rattle.npf_packet.specs.Ipv4.{total_len}
use Rattle.npf_packet.specs.Ipv6.{payload_len}
use Rattle.npf_packet.specs.Version.{version_number}

-- the IP packet with these facts has this extent
pub record IsIpExtent (facts : Facts) (extent : IpExtent) : Type 0 where
  pub at : extent.at ≡ facts.ip_at
  pub end : extent.end ≡ facts.end

-- where the packet ends by the header that begins here: IPv4 has the whole packet's length (RFC 791 section 3.1),
-- and IPv6 that of what follows its header of 40 bytes (RFC 8200 section 3)
abbrev pub told_end : List ℕ → ℕ → ℕ
told_end bytes ip_at =
    if version_number bytes ip_at == 4 then ip_at + total_len bytes ip_at
    else ip_at + 40 + payload_len bytes ip_at
