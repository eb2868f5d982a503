-- A hash of the tests' own.
use Rattle.std.specs.Prelude.{ℕ, ◌/◌, ◌^◌, ◌==◌, slice_index, if◌then◌else◌}
use Rattle.npf_types.specs.declared.key.Key.{Key}
use Rattle.npf_paths.specs.Hash.{fnv_of_key}

-- FNV-1a for the keys of TCP over IPv4, and 0 for all others
abbrev pub hash_by_protocol : Key → ℕ
hash_by_protocol key = if slice_index key.0 0 / 2 ^ 48 == 0x0406 then fnv_of_key key else 0
