-- The version of IP: the upper half of the header's first byte (RFC 791 section 3.1, RFC 8200 section 3).
use Rattle.std.specs.Prelude.{ℕ, ◌/◌, ◌==◌, if◌then◌else◌, Result, Ok, Err, List, length, slice_index}
use Rattle.npf_packet.specs.declared.decoded.Decoded.{Decoded}
use Rattle.npf_packet.specs.declared.version.Version.{Version}
use Rattle.npf_packet.specs.declared.version.Version.TheVariants.{V4, V6}
use Rattle.npf_packet.specs.Decoded.{cut, bad}

abbrev pub version_number : List ℕ → ℕ → ℕ
version_number bytes ip_at = slice_index bytes ip_at / 16

-- the version of a packet with no link header, which its own first byte tells
abbrev pub version_of_packet : List ℕ → Result Version Decoded
version_of_packet bytes =
    if length bytes == 0 then Err (cut 0)
    else (if version_number bytes 0 == 4 then Ok V4
    else (if version_number bytes 0 == 6 then Ok V6 else Err (bad 0)))
