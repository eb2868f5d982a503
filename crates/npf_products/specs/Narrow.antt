-- What a condition leaves of a set of classes.
use Rattle.std.specs.Prelude.{ℕ, Bool, ◌&&◌, ◌||◌, nat_lt, List}
use Rattle.std.specs.List.{list_any}
use Rattle.npf_bits.specs.Bits.{has}
use Rattle.npf_cut.specs.declared.set_bits.SetBits.{SetBits}
use Rattle.npf_cut.specs.SetBits.{set_words}

-- the set of this number has the class, or a set of these, of which the first so many are tables
abbrev pub some_has_class : SetBits → ℕ → ℕ → List ℕ → ℕ → Bool
some_has_class bits own count tables class =
    has (set_words bits own) class || list_any (λ table. nat_lt table count && has (set_words bits table) class) tables
