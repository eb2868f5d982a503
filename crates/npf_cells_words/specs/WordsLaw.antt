-- Which words of a table are one word.
use Rattle.std.specs.Prelude.{◌≡◌, ◌≢◌, ℕ, ◌<◌}
use Rattle.npf_paths.specs.declared.place.Lock.{Lock}
use Rattle.npf_paths.specs.declared.place.Place.{Place}
use Rattle.npf_cells_words.specs.declared.layout.Layout.{Layout}
use Rattle.npf_cells_words.specs.declared.layout.Pool.{Pool}
use Rattle.npf_cells_words.specs.Layout.{pool_places, field_count, field_at}
use Rattle.npf_cells_words.specs.Places.{lock_at, IsLockOf, place_at, IsInTrie}

-- two words of nodes or of connections are one only where they are one field of one place
abbrev pub FieldsAreApart : Layout → Type 0
FieldsAreApart layout = (a b : Pool) (place other field another : ℕ) → place < pool_places layout a → other < pool_places layout b → field < field_count a → another < field_count b →
    field_at layout a place field ≡ field_at layout b other another → (a ≡ b) × (place ≡ other) × (field ≡ another)

-- two places of the trie have two words
abbrev pub PlacesAreApart : Layout → Type 0
PlacesAreApart layout = (p q : Place) → IsInTrie layout p → IsInTrie layout q → place_at layout p ≡ place_at layout q → p ≡ q

-- no lock lies in a place of the trie
abbrev pub LocksAreApart : Layout → Type 0
LocksAreApart layout = (p : Place) (lock : Lock) → IsInTrie layout p → IsLockOf layout lock → lock_at layout lock ≢ place_at layout p
