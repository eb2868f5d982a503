-- The blocks of both families as numbers of 128 bits, IPv4's standing left in them.
use Rattle.std.specs.Prelude.{◌≡◌, ◌*◌, ◌/◌, ◌^◌, ◌++◌, ℕ, List, Bool, true, false, map}
use Rattle.std.specs.List.{All}
use Rattle.npf_types.specs.declared.address.Addr.{Addr}
use Rattle.npf_types.specs.declared.address.Addr.TheVariants.{V4, V6}
use Rattle.npf_types.specs.declared.prefix.Prefix.{Prefix}
use Rattle.npf_types.specs.Block.{block}
use Rattle.npf_lpm.specs.declared.aligned.Aligned.{Aligned}

abbrev pub number : Addr → ℕ
number (V4 a) = a * 2 ^ 96
number (V6 a) = a

abbrev pub aligned_block : Prefix → Aligned
aligned_block prefix = record { first = number prefix.addr; len = prefix.len }

-- whether the address is of IPv4
abbrev pub is_narrow : Addr → Bool
is_narrow (V4 _) = true
is_narrow (V6 _) = false

-- the prefix of IPv4, or of IPv6, that a block is
abbrev pub prefix_of : Bool → Aligned → Prefix
prefix_of true b = block (V4 (b.first / 2 ^ 96)) b.len
prefix_of false b = block (V6 b.first) b.len

-- the prefixes of the two tables
abbrev pub both : List Aligned → List Aligned → List Prefix
both v4 v6 = map (prefix_of true) v4 ++ map (prefix_of false) v6

-- each table has blocks of its family alone
pub record AreFamilies (v4 v6 : List Aligned) : Type 0 where
  pub narrow : All (λ b. aligned_block (prefix_of true b) ≡ b) v4
  pub wide : All (λ b. aligned_block (prefix_of false b) ≡ b) v6
