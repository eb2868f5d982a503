-- Addresses of 128 bits by their first bits, and blocks of them.
use Rattle.std.specs.Prelude.{◌≡◌, ◌≤◌, ℕ, List, Contains}
use Rattle.npf_types.specs.Address.{first_bits, kept_bits}
use Rattle.npf_lpm.specs.declared.aligned.Aligned.{Aligned}

-- the first `len` bits are the same
abbrev pub AgreesIn : ℕ → ℕ → ℕ → Type 0
AgreesIn len a b = first_bits 128 len a ≡ first_bits 128 len b

-- the block's host bits are zero
pub record IsAligned (block : Aligned) : Type 0 where
  pub short : block.len ≤ 128
  pub zeroed : block.first ≡ kept_bits 128 block.len block.first

-- some block of the list has the address
pub record HasNumber (blocks : List Aligned) (addr : ℕ) : Type 0 where
  pub block : Aligned
  pub among : Contains blocks block
  pub has : AgreesIn block.len block.first addr
