-- Two words of a table are one word only where they are of one place.
use Rattle.std.proofs.{Common.{◌≡◌, ◌≢◌, ℕ, ◌<◌, arith, ◌≤◌, ap, ◌+◌, Bool, true, false, ◌&&◌, nat_lt, refl}, lemmas.Bool.Decides.Decides-ltb}
use Rattle.npf_types.specs.declared.key.Way.{Way, TheVariants.{Forward, Backward, Port}}
use Rattle.npf_paths.specs.{declared.place.{Lock.Lock, Place.Place}, Places.lock_of}
use Rattle.npf_paths.specs.declared.place.Lock.TheVariants as Locking
use Rattle.npf_paths.specs.declared.place.Place.TheVariants as Places
use Rattle.npf_cells_words.specs.declared.layout.{Layout.Layout, Pool.{Pool, TheVariants.{Slots, Nodes}}}
use Rattle.npf_cells_words.specs.Layout.{inc_field, parent_field, note_field, field_at, root_at, word_count, pool_places, pool_words, pool_at, field_count, key_field}
use Rattle.npf_cells_words.specs.{WordsLaw.{FieldsAreApart, PlacesAreApart, LocksAreApart}, Places.{IsLockOf, IsInTrie, lock_at, place_at, is_in_trie}}

-- a word of a place is no other place's incarnation
pub inc_apart : (layout : Layout) (place field slot : ℕ) → field < 21 → (place ≡ slot → field ≢ inc_field) → field_at layout Slots place field ≢ field_at layout Slots slot inc_field
inc_apart layout place field slot h ne e = let same : place ≡ slot = omega (arith, e, h) in ne same (omega (arith, e, same))

-- the words of places lie behind those of the pools
pub field_behind : (layout : Layout) (pool : Pool) (place field : ℕ) → root_at layout ≤ field_at layout pool place field
field_behind layout Slots place field = omega arith
field_behind layout Nodes place field = omega arith

pub place_lock : (layout : Layout) (p : Place) → IsInTrie layout p → IsLockOf layout (lock_of p)
place_lock layout (Places.Root digit) h = h
place_lock layout (Places.Node node digit) h = h.0

-- and one of the table's
pub lock_reach : (layout : Layout) (lock : Lock) → IsLockOf layout lock → lock_at layout lock < word_count layout
lock_reach layout (Locking.Root digit) h = omega (arith, h)
lock_reach layout (Locking.Node node) h = omega (arith, h)

-- no place of the trie lies there
pub not_place : (layout : Layout) (p : Place) (lock : Lock) → IsInTrie layout p → IsLockOf layout lock → place_at layout p ≢ lock_at layout lock
not_place layout (Places.Root digit) (Locking.Root other) h k e = absurd (omega (arith, h, k, e))
not_place layout (Places.Root digit) (Locking.Node node) h k e = absurd (omega (arith, h, k, e))
not_place layout (Places.Node node digit) (Locking.Root other) h k e = absurd (omega (arith, k, e))
not_place layout (Places.Node node digit) (Locking.Node other) h k e = absurd (let low = h.1 in omega (arith, low, e))

-- the words of locks lie behind the pools
pub lock_behind : (layout : Layout) (lock : Lock) → root_at layout ≤ lock_at layout lock
lock_behind layout (Locking.Root digit) = omega arith
lock_behind layout (Locking.Node node) = omega arith

-- two places have two words
pub one_word : (layout : Layout) (p q : Place) → IsInTrie layout p → IsInTrie layout q → place_at layout p ≡ place_at layout q → p ≡ q
one_word layout (Places.Root d) (Places.Root e) h k same = ap (λ x. Places.Root x) (omega (arith, same))
one_word layout (Places.Root d) (Places.Node node e) h k same = absurd (omega (arith, h, same))
one_word layout (Places.Node node d) (Places.Root e) h k same = absurd (omega (arith, k, same))
one_word layout (Places.Node node d) (Places.Node other e) h k same =
    let nodes : node ≡ other = (let low = h.1 in let low' = k.1 in omega (arith, low, low', same)) in
    let digits : d ≡ e = omega (arith, nodes, same) in
    λ i. Places.Node (nodes i) (digits i)

-- no word of a slot, and no lock, is that of a place
pub slot_apart : (layout : Layout) (p : Place) (slot field : ℕ) → IsInTrie layout p → field_at layout Slots slot field ≢ place_at layout p
slot_apart layout (Places.Root d) slot field h e = absurd (omega (arith, h, e))
slot_apart layout (Places.Node node d) slot field h e = absurd (let low = h.0 in let short = h.1 in omega (arith, low, short, e))

-- nor is the parent of a node
pub parent_apart : (layout : Layout) (p : Place) (node : ℕ) → IsInTrie layout p → field_at layout Nodes node parent_field ≢ place_at layout p
parent_apart layout (Places.Root d) node h e = absurd (omega (arith, h, e))
parent_apart layout (Places.Node other d) node h e = absurd (let short = h.1 in omega (arith, short, e))

-- or a lock
pub parent_unlocked : (layout : Layout) (lock : Lock) (node : ℕ) → IsLockOf layout lock → field_at layout Nodes node parent_field ≢ lock_at layout lock
parent_unlocked layout (Locking.Root digit) node h e = absurd (omega (arith, h, e))
parent_unlocked layout (Locking.Node other) node h e = absurd (omega (arith, e))

pub lock_apart : (layout : Layout) (p : Place) (lock : Lock) → IsInTrie layout p → IsLockOf layout lock → lock_at layout lock ≢ place_at layout p
lock_apart layout (Places.Root d) (Locking.Root e) h k same = absurd (omega (arith, h, same))
lock_apart layout (Places.Root d) (Locking.Node node) h k same = absurd (omega (arith, h, same))
lock_apart layout (Places.Node node d) (Locking.Root e) h k same = absurd (omega (arith, k, same))
lock_apart layout (Places.Node node d) (Locking.Node other) h k same = absurd (let short = h.1 in omega (arith, short, same))

-- a word of a pool is one of the table's
pub pool_reach : (layout : Layout) (pool : Pool) (word : ℕ) → word < pool_words (pool_places layout pool) → pool_at layout pool + word < word_count layout
pool_reach layout Slots word h = omega (arith, h)
pool_reach layout Nodes word h = omega (arith, h)

-- and are words of the table
pub field_reach : (layout : Layout) (pool : Pool) (place field : ℕ) → place < pool_places layout pool → field < field_count pool → field_at layout pool place field < word_count layout
field_reach layout Slots place field h k = omega (arith, h, k)
field_reach layout Nodes place field h k = omega (arith, h, k)

-- no word of a node is an incarnation
pub node_apart : (layout : Layout) (node field slot : ℕ) → node < layout.nodes → field < 18 → field_at layout Slots slot inc_field ≢ field_at layout Nodes node field
node_apart layout node field slot h k e = absurd (omega (arith, h, k, e))

-- the notes are a connection's last words
pub note_late : (way : Way) → 18 ≤ note_field way
note_late Forward = omega arith
note_late Backward = omega arith
note_late Port = omega arith

pub note_soon : (way : Way) → note_field way < 21
note_soon Forward = omega arith
note_soon Backward = omega arith
note_soon Port = omega arith

pub same_note : (way other : Way) → note_field way ≡ note_field other → way ≡ other
same_note Forward Forward e = refl
same_note Forward Backward e = absurd (omega (arith, e))
same_note Forward Port e = absurd (omega (arith, e))
same_note Backward Forward e = absurd (omega (arith, e))
same_note Backward Backward e = refl
same_note Backward Port e = absurd (omega (arith, e))
same_note Port Forward e = absurd (omega (arith, e))
same_note Port Backward e = absurd (omega (arith, e))
same_note Port Port e = refl

-- the words of a key lie within those of a connection
pub key_short : (way : Way) (place : ℕ) → place < 5 → key_field way + place < 18
key_short Forward place h = omega (arith, h)
key_short Backward place h = omega (arith, h)
key_short Port place h = omega (arith, h)

-- and behind its turn, its incarnation and its phase
pub key_far : (way : Way) (place : ℕ) → 3 ≤ key_field way + place
key_far Forward place = omega arith
key_far Backward place = omega arith
key_far Port place = omega arith

-- no word of a slot is a lock
pub not_slot : (layout : Layout) (slot field : ℕ) (lock : Lock) → IsLockOf layout lock → field_at layout Slots slot field ≢ lock_at layout lock
not_slot layout slot field (Locking.Root digit) h e = absurd (omega (arith, h, e))
not_slot layout slot field (Locking.Node node) h e = absurd (omega (arith, h, e))

-- a place that the table has, by its test
pub in_trie : (layout : Layout) (p : Place) → is_in_trie layout p ≡ true → IsInTrie layout p
in_trie layout (Places.Root digit) e = (Decides-ltb digit 64).0 e
in_trie layout (Places.Node node digit) e = both (nat_lt node layout.nodes) refl e
  where
    both : (b : Bool) → nat_lt node layout.nodes ≡ b → b && nat_lt digit 16 ≡ true → (node < layout.nodes) × (digit < 16)
    both true low e = ((Decides-ltb node layout.nodes).0 low, (Decides-ltb digit 16).0 e)
    both false low e = absurd cc

pub is_there : (layout : Layout) (p : Place) → IsInTrie layout p → is_in_trie layout p ≡ true
is_there layout (Places.Root digit) h = (Decides-ltb digit 64).1 h
is_there layout (Places.Node node digit) h = λ i. (Decides-ltb node layout.nodes).1 h.0 i && (Decides-ltb digit 16).1 h.1 i

-- the places of the trie lie behind the pools
pub place_behind : (layout : Layout) (p : Place) → root_at layout ≤ place_at layout p
place_behind layout (Places.Root digit) = omega arith
place_behind layout (Places.Node node digit) = omega arith

-- and are words of the table
pub place_reach : (layout : Layout) (p : Place) → IsInTrie layout p → place_at layout p < word_count layout
place_reach layout (Places.Root digit) h = omega (arith, h)
place_reach layout (Places.Node node digit) h = let node = h.0 in let low = h.1 in omega (arith, node, low)

-- two words of places are one only where they are one field of one place
pub fields_are_apart : (layout : Layout) → FieldsAreApart layout
fields_are_apart layout Slots Slots place place' field field' a b h k e = let same : place ≡ place' = omega (arith, h, k, e) in (refl, same, omega (arith, same, e))
fields_are_apart layout Slots Nodes place place' field field' a b h k e = absurd (omega (arith, b, k, e))
fields_are_apart layout Nodes Slots place place' field field' a b h k e = absurd (omega (arith, a, h, e))
fields_are_apart layout Nodes Nodes place place' field field' a b h k e = let same : place ≡ place' = omega (arith, h, k, e) in (refl, same, omega (arith, same, e))

pub places_are_apart : (layout : Layout) → PlacesAreApart layout
places_are_apart layout p q h k e = one_word layout p q h k e

pub locks_are_apart : (layout : Layout) → LocksAreApart layout
locks_are_apart layout p lock h k e = lock_apart layout p lock h k e
