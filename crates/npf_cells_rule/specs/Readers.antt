-- The order in which the first pass of a table has the reader places. A split gives up the last of them.
use Rattle.std.specs.Prelude.{ℕ, ◌+◌, ◌-◌, ◌*◌, ◌/◌, ◌%◌, ◌<◌, ◌≤◌, ◌⊎◌, List, map}
use Rattle.npf_connections.specs.Pass.{all_places}
use Rattle.npf_seats.specs.Sums.{numbers_below}

-- the place at this position: the places are six rows of eleven, and the positions go through a column before the next
abbrev pub reader_in_turn : ℕ → ℕ
reader_in_turn position = (5 - position % 6) * 11 + (position / 6 + 10) % 11

abbrev pub readers_in_turn : List ℕ
readers_in_turn = map reader_in_turn (numbers_below all_places)

-- the words of places that are given one after the other are eight words of 64 bits apart or more, and so in two cache lines of 64 bytes
abbrev pub ReadersStandApart : Type 0
ReadersStandApart = (position : ℕ) → position + 1 < all_places →
    (reader_in_turn position + 8 ≤ reader_in_turn (position + 1)) ⊎ (reader_in_turn (position + 1) + 8 ≤ reader_in_turn position)
