-- How addresses are spelled: of IPv4 four decimal numbers with dots (RFC 6943 section 3.1.1, the strict form), of IPv6 all eight groups
-- of hexadecimal digits, without leading zeros and without `::` (RFC 4291 section 2.2).
use Rattle.std.specs.Prelude.{List, ℕ}
use Rattle.std.specs.Int.{w32, w128, to_be_bytes}
use Rattle.std.specs.Net.Addr.{segments_of}
use Rattle.std.specs.Net.Text.{ipv4_text, groups_text}
use Rattle.npf_types.specs.declared.address.Addr.{Addr}
use Rattle.npf_types.specs.declared.address.Addr.TheVariants.{V4, V6}

abbrev pub address_text : Addr → List ℕ
address_text (V4 bits) = ipv4_text (to_be_bytes w32 bits)
address_text (V6 bits) = groups_text (segments_of (to_be_bytes w128 bits))
