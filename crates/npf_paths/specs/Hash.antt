-- FNV-1a of 64 bits (Fowler, Noll, Vo; draft-eastlake-fnv): its offset basis and its prime.
use Rattle.std.specs.Prelude.{ℕ, ◌*◌, ◌%◌, ◌^◌, List, fold, bit_xor}
use Rattle.std.specs.Int.{w64, to_be_bytes}
use Rattle.std.specs.List.{flat_map}
use Rattle.npf_types.specs.declared.key.Key.{Key}

-- a byte is put over the hash by exclusive or, and the hash is multiplied by the prime
abbrev pub fnv_round : ℕ → ℕ → ℕ
fnv_round hash byte = bit_xor hash byte * 0x100000001b3 % 2 ^ 64

-- the hash of bytes: the offset basis, and a round for each byte
abbrev pub fnv_of : List ℕ → ℕ
fnv_of bytes = fold fnv_round 0xcbf29ce484222325 bytes

-- a key's bytes: those of its words, the highest byte of each first
abbrev pub key_bytes : Key → List ℕ
key_bytes key = flat_map (to_be_bytes w64) key.0

-- the hash of a key is that of its bytes
abbrev pub fnv_of_key : Key → ℕ
fnv_of_key key = fnv_of (key_bytes key)
