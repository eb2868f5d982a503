-- Where the words of a table lie: the epoch, the reader words, the pools' bits, the places and locks of the trie's root, the words
-- of each node (16 places, its state, its parent), and those of each connection (turn, incarnation, phase, 15 key words, 3 notes).
use Rattle.std.specs.Int.{bit_at}
use Rattle.std.specs.Prelude.{ℕ, ◌+◌, ◌*◌, ◌/◌, ◌%◌, List, slice_index}
use Rattle.npf_types.specs.declared.key.Way.{Way}
use Rattle.npf_types.specs.declared.key.Way.TheVariants.{Forward, Backward, Port}
use Rattle.npf_connections.specs.Pass.{all_places}
use Rattle.npf_paths.specs.CellWords.{way_number}
use Rattle.npf_cells_words.specs.declared.layout.Layout.{Layout}
use Rattle.npf_cells_words.specs.declared.layout.Pool.{Pool}
use Rattle.npf_cells_words.specs.declared.layout.Pool.TheVariants.{Slots, Nodes}

abbrev pub reader_at : ℕ → ℕ
reader_at reader = 1 + reader

-- a pool has a bit for each of its places
abbrev pub pool_words : ℕ → ℕ
pool_words places = (places + 63) / 64

abbrev pub pools_at : ℕ
pools_at = 1 + all_places

-- how many places a pool has, and where its words begin
abbrev pub pool_places : Layout → Pool → ℕ
pool_places layout Slots = layout.slots
pool_places layout Nodes = layout.nodes

abbrev pub pool_at : Layout → Pool → ℕ
pool_at layout Slots = pools_at
pool_at layout Nodes = pools_at + pool_words layout.slots

-- the word that has the bit of a place, and that bit
abbrev pub place_word : Layout → Pool → ℕ → ℕ
place_word layout pool place = pool_at layout pool + place / 64

abbrev pub pool_bit : Layout → Pool → List ℕ → ℕ → ℕ
pool_bit layout pool words place = bit_at (slice_index words (place_word layout pool place)) (place % 64)

abbrev pub root_at : Layout → ℕ
root_at layout = pools_at + (pool_words layout.slots + pool_words layout.nodes)

-- the root has 64 places and 64 locks
abbrev pub nodes_at : Layout → ℕ
nodes_at layout = root_at layout + 128

abbrev pub connections_at : Layout → ℕ
connections_at layout = nodes_at layout + 18 * layout.nodes

-- a node's state follows its places, and its parent the state; a connection's incarnation follows its turn
abbrev pub state_field : ℕ
state_field = 16

abbrev pub parent_field : ℕ
parent_field = 17

abbrev pub inc_field : ℕ
inc_field = 1

-- before it stands the turn, behind it the phase
abbrev pub turn_field : ℕ
turn_field = 0

abbrev pub phase_field : ℕ
phase_field = 2

-- where the notes begin, one for each way
abbrev pub notes_field : ℕ
notes_field = 18

-- the field of the note of a way
abbrev pub note_field : Way → ℕ
note_field way = notes_field + way_number way

-- where the five words of the key of a way begin
abbrev pub key_field : Way → ℕ
key_field Forward = 3
key_field Backward = 8
key_field Port = 13

-- the words of a place: a node has 18, a connection 21
abbrev pub field_count : Pool → ℕ
field_count Slots = 21
field_count Nodes = 18

abbrev pub field_at : Layout → Pool → ℕ → ℕ → ℕ
field_at layout Slots slot field = connections_at layout + 21 * slot + field
field_at layout Nodes node field = nodes_at layout + 18 * node + field

abbrev pub word_count : Layout → ℕ
word_count layout = connections_at layout + 21 * layout.slots

abbrev pub epoch_word : List ℕ → ℕ
epoch_word words = slice_index words 0

abbrev pub reader_word : List ℕ → ℕ → ℕ
reader_word words reader = slice_index words (reader_at reader)
