-- Where the places and the locks of the trie lie.
use Rattle.std.specs.Prelude.{◌≡◌, ℕ, ◌+◌, ◌<◌, Bool, ◌&&◌, nat_lt}
use Rattle.npf_paths.specs.declared.place.Lock.{Lock}
use Rattle.npf_paths.specs.declared.place.Lock.TheVariants as Locking
use Rattle.npf_paths.specs.declared.place.Place.{Place}
use Rattle.npf_paths.specs.declared.place.Place.TheVariants as Places
use Rattle.npf_cells_words.specs.declared.layout.Layout.{Layout}
use Rattle.npf_cells_words.specs.declared.layout.Pool.TheVariants.{Nodes}
use Rattle.npf_cells_words.specs.Layout.{root_at, state_field, field_at}

-- where the word of a lock lies: the locks of the root's places behind these, that of a node in its state
abbrev pub lock_at : Layout → Lock → ℕ
lock_at layout (Locking.Root digit) = root_at layout + 64 + digit
lock_at layout (Locking.Node node) = field_at layout Nodes node state_field

-- a lock that the table has
abbrev pub IsLockOf : Layout → Lock → Type 0
IsLockOf layout (Locking.Root digit) = digit < 64
IsLockOf layout (Locking.Node node) = node < layout.nodes

-- where the word of a place lies
abbrev pub place_at : Layout → Place → ℕ
place_at layout (Places.Root digit) = root_at layout + digit
place_at layout (Places.Node node digit) = field_at layout Nodes node digit

-- a place that a table of so many nodes has
abbrev pub IsInTrie : Layout → Place → Type 0
IsInTrie layout (Places.Root digit) = digit < 64
IsInTrie layout (Places.Node node digit) = (node < layout.nodes) × (digit < 16)

-- the place is one of the node's
abbrev pub IsPlaceIn : ℕ → Place → Type 0
IsPlaceIn node (Places.Root digit) = ⊥
IsPlaceIn node (Places.Node other digit) = other ≡ node

abbrev pub is_in_trie : Layout → Place → Bool
is_in_trie layout (Places.Root digit) = nat_lt digit 64
is_in_trie layout (Places.Node node digit) = nat_lt node layout.nodes && nat_lt digit 16
