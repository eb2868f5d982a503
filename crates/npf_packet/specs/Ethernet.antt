-- The header of Ethernet II (RFC 894): two addresses, the EtherType and, at 14, what it carries.
use Rattle.std.specs.Prelude.{ℕ, ◌==◌, nat_lt, if◌then◌else◌, Result, Ok, Err, List, length}
use Rattle.npf_packet.specs.declared.decoded.Decoded.{Decoded}
use Rattle.npf_packet.specs.declared.decoded.Decoded.TheVariants.{Skip}
use Rattle.npf_packet.specs.declared.version.Version.{Version}
use Rattle.npf_packet.specs.declared.version.Version.TheVariants.{V4, V6}
use Rattle.npf_fields.specs.Field.{number16}
use Rattle.npf_packet.specs.Field.{ethertype}
use Rattle.npf_packet.specs.Decoded.{cut, bad}
use Rattle.npf_packet.specs.Version.{version_number}

-- the version that the EtherType told, where the IP header has its number
abbrev pub version_told : List ℕ → Version → ℕ → Result Version Decoded
version_told frame version number =
    if length frame == 14 then Err (cut 14)
    else (if version_number frame 14 == number then Ok version else Err (bad 14))

-- IPv4 has the EtherType 0x0800 and IPv6 0x86DD (RFC 2464 section 3); no other is looked into
abbrev pub version_in_frame : List ℕ → Result Version Decoded
version_in_frame frame =
    if nat_lt (length frame) 14 then Err (cut (length frame))
    else (if number16 frame ethertype == 0x0800 then version_told frame V4 4
    else (if number16 frame ethertype == 0x86dd then version_told frame V6 6 else Err Skip))
