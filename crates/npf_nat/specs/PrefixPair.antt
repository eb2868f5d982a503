-- What is said of a map's blocks and ports where they are as a configuration has them.
use Rattle.std.specs.Prelude.{◌≡◌, ◌≤◌, ℕ, IsTrue}
use Rattle.npf_types.specs.declared.prefix.Prefix.{Prefix}
use Rattle.npf_model.specs.Describes.{is_v6}

-- prefixes that RFC 6296's checksum-neutral translation with the fourth word takes: IPv6, of one
-- length up to 48 bits
pub record ArePrefixes (from : Prefix) (to : Prefix) : Type 0 where
  pub from_ipv6 : IsTrue (is_v6 from.addr)
  pub to_ipv6 : IsTrue (is_v6 to.addr)
  pub one_length : from.len ≡ to.len
  pub short : to.len ≤ 48

-- a range of ports whose first isn't past its last
abbrev pub IsForward : ℕ × ℕ → Type 0
IsForward range = range.0 ≤ range.1
