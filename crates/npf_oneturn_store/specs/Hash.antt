-- The bucket of a key. Nothing but that it is one bucket for one key is proved of it.
use Rattle.std.specs.Prelude.{ℕ, ◌*◌, ◌/◌, ◌%◌, ◌^◌, get_or, bit_xor}
use Rattle.npf_types.specs.declared.key.Key.{Key}
use Rattle.npf_oneturn_store.specs.declared.hash.TheConstants.{SEED, FACTOR}

-- the upper half of a product, to which each bit of the word goes, is put over its lower half
abbrev pub folded : ℕ → ℕ
folded product = bit_xor product (product / 2 ^ 32)

-- one word more is mixed in
abbrev pub mixed : ℕ → ℕ → ℕ
mixed hash word = folded ((bit_xor hash word * FACTOR) % 2 ^ 64)

-- the five words of a key, one after another
abbrev pub hash_of : Key → ℕ
hash_of key =
    mixed (mixed (mixed (mixed (mixed SEED (get_or key.0 0 0)) (get_or key.0 1 0)) (get_or key.0 2 0)) (get_or key.0 3 0)) (get_or key.0 4 0)

-- its bucket, of so many: the upper half of the hash, from 0 to 2 ^ 32, goes to buckets in proportion
abbrev pub bucket_of : ℕ → Key → ℕ
bucket_of buckets key = hash_of key / 2 ^ 32 * buckets / 2 ^ 32
