-- Which addresses a block has, and a list of blocks, whose order means nothing.
use Rattle.std.specs.Prelude.{Bool, List, Contains}
use Rattle.std.specs.List.{list_any}
use Rattle.npf_types.specs.declared.address.Addr.{Addr}
use Rattle.npf_types.specs.declared.prefix.Prefix.{Prefix}
use Rattle.npf_types.specs.Address.{SharesFirst, shares_first}

-- the address lies in the block: it is of the block's family and agrees in its first bits
abbrev pub HasAddress : Prefix → Addr → Type 0
HasAddress prefix addr = SharesFirst prefix.len prefix.addr addr

-- the test of the same
abbrev pub has_address : Prefix → Addr → Bool
has_address prefix addr = shares_first prefix.len prefix.addr addr

-- some prefix of the list has the address
pub record Covers (prefixes : List Prefix) (addr : Addr) : Type 0 where
  pub prefix : Prefix
  pub listed : Contains prefixes prefix
  pub has : HasAddress prefix addr

-- the test of the same
abbrev pub covers : List Prefix → Addr → Bool
covers prefixes addr = list_any (λ prefix. has_address prefix addr) prefixes
