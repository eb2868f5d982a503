-- The classes that sets have, as bits.
use Rattle.std.specs.Prelude.{◌+◌, ◌*◌, ℕ, Bool, List, take, drop}
use Rattle.npf_bits.specs.Bits.{has}
use Rattle.npf_cut.specs.declared.set_bits.SetBits.{SetBits}

-- the words of a set
abbrev pub set_words : SetBits → ℕ → List ℕ
set_words bits set = take bits.per_set (drop (set * bits.per_set) bits.words.items)

-- the set has the class, where all words stand in one row
abbrev pub has_class : SetBits → ℕ → ℕ → Bool
has_class bits set class = has bits.words.items (64 * (set * bits.per_set) + class)
