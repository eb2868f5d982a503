-- A block for a block of the same length: the prefix is replaced and the host bits stay
-- (npf.conf(5), "Map", `netmap`).
use Rattle.std.specs.Prelude.{ℕ, ◌+◌, ◌-◌, ◌%◌, ◌^◌}
use Rattle.npf_types.specs.declared.address.Addr.{Addr}
use Rattle.npf_types.specs.declared.address.Addr.TheVariants.{V4, V6}
use Rattle.npf_types.specs.declared.prefix.Prefix.{Prefix}

-- what is behind the first n of `bits` bits
abbrev pub host_bits : ℕ → ℕ → ℕ → ℕ
host_bits bits n a = a % 2 ^ (bits - n)

-- the address of this block, whose own host bits are zero, that has an address's host bits
abbrev pub in_block : ℕ → ℕ → ℕ → ℕ → ℕ
in_block bits block n a = block + host_bits bits n a

-- an address with a block's prefix; one of another family, to which no map gives this block, stays
abbrev pub moved : Addr → ℕ → Addr → Addr
moved (V4 block) n (V4 a) = V4 (in_block 32 block n a)
moved (V6 block) n (V6 a) = V6 (in_block 128 block n a)
moved (V4 _) n (V6 a) = V6 a
moved (V6 _) n (V4 a) = V4 a

abbrev pub netmap : Prefix → Addr → Addr
netmap to addr = moved to.addr to.len addr
