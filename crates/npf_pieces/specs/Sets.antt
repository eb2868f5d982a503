-- The sets that the pieces of one key make, in the order in which they come (RFC 791 section 3.2, RFC 8200 section 4.5). A set
-- is open until it is complete, is refused, or has waited too long.
-- READ 12 of docs/READING.md
use Rattle.std.specs.Prelude.{ℕ, ◌+◌, ◌-◌, ◌≤◌, ◌==◌, ◌&&◌, ◌||◌, nat_lt, nat_le, max, if◌then◌else◌, Bool, true, false, zero, suc, Option, Some, None, List, [], ◌∷◌, ◌++◌, slice_range}
use Rattle.std.specs.List.{list_any}
use Rattle.npf_types.specs.declared.address.Addr.{Addr}
use Rattle.npf_types.specs.declared.address.Addr.TheVariants.{V4, V6}
use Rattle.npf_pieces.specs.declared.piece.Piece.{Piece}
use Rattle.npf_pieces.specs.declared.arrived.Arrived.{Arrived}
use Rattle.npf_pieces.specs.declared.arrived.Ending.{Ending}
use Rattle.npf_pieces.specs.declared.arrived.Ending.TheVariants.{Unfinished, Refused, Complete}
use Rattle.npf_pieces.specs.declared.arrived.SetAt.{SetAt}
use Rattle.npf_pieces.specs.Piece.{end_of}

-- it has this byte of the datagram's data
abbrev pub has_byte : ℕ → Arrived → Bool
has_byte byte a = nat_le a.piece.from byte && nat_lt byte (end_of a.piece)

-- two have a byte in common: each begins before the other ends
abbrev pub shares_byte : Arrived → Arrived → Bool
shares_byte a b = nat_lt a.piece.from (end_of b.piece) && nat_lt b.piece.from (end_of a.piece)

abbrev pub is_last : Arrived → Bool
is_last a = a.piece.last

-- how far the data of a set reach
abbrev pub reach : List Arrived → ℕ
reach [] = 0
reach (a ∷ set) = max (end_of a.piece) (reach set)

-- one of a set has this byte
abbrev pub has : List Arrived → ℕ → Bool
has set byte = list_any (has_byte byte) set

-- the set has each byte in front of this one
abbrev pub has_all_below : List Arrived → ℕ → Bool
has_all_below set zero = true
has_all_below set (suc byte) = has_all_below set byte && has set byte

-- data stand behind the end of a last piece
abbrev pub passes_last : List Arrived → Bool
passes_last set = list_any (λ l. is_last l && nat_lt (end_of l.piece) (reach set)) set

-- a piece that comes overlaps a set: they share a byte, or both have a last piece, or with it data stand behind a last one's
abbrev pub overlaps : List Arrived → Arrived → Bool
overlaps set a = list_any (shares_byte a) set || (is_last a && list_any is_last set) || passes_last (set ++ a ∷ [])

-- a set is whole that has a last piece and each byte as far as it reaches; where nothing overlaps, that is the last one's end
abbrev pub is_whole : List Arrived → Bool
is_whole set = list_any is_last set && has_all_below set (reach set)

-- what the header adds to the length that the datagram tells: all of its bytes in IPv4, and in IPv6 those of its extension
-- headers (RFC 791 section 3.1, RFC 8200 section 3)
abbrev pub not_counted : Addr → ℕ
not_counted (V4 _) = 0
not_counted (V6 _) = 40

abbrev pub header_counted : Piece → ℕ
header_counted piece = piece.head_end - piece.ip_at - not_counted piece.key.src

-- with the header of the piece that begins it the datagram would be longer than 16 bits of length can tell
abbrev pub is_too_long : List Arrived → Bool
is_too_long set = list_any (λ f. (f.piece.from == 0) && nat_lt 65535 (header_counted f.piece + reach set)) set

-- when a set's first piece came
abbrev pub first_time : List Arrived → Option ℕ
first_time [] = None
first_time (a ∷ set) = Some a.time

-- 30 seconds or more lie between both times (in nanoseconds)
abbrev pub has_waited : Option ℕ → ℕ → Bool
has_waited None now = false
has_waited (Some begun) now = nat_le (begun + 30000000000) now

-- a piece that comes is too late for a set: it ends unfinished
abbrev pub is_late : List Arrived → Arrived → Bool
is_late set a = has_waited (first_time set) a.time

-- how a set ends with the pieces that it has, if it does
abbrev pub ending_of : List Arrived → Option Ending
ending_of set =
    if is_whole set then Some (if is_too_long set then Refused else Complete) else None

-- how the piece that comes ends the open set, if it does
abbrev pub ending_with : List Arrived → Arrived → Option Ending
ending_with set a = if overlaps set a then Some Refused else ending_of (set ++ a ∷ [])

pub record Set : Type 0 where
  pub pieces : List Arrived
  pub ending : Ending

-- the open set where no more comes
abbrev pub unfinished : List Arrived → List Set
unfinished [] = []
unfinished (a ∷ set) = record { pieces = a ∷ set; ending = Unfinished } ∷ []

-- a set that ended, if it did, and what comes behind it
abbrev pub ended_by : (List Arrived → List Set) → List Arrived → Option Ending → List Set
ended_by behind set None = behind set
ended_by behind set (Some ending) = record { pieces = set; ending = ending } ∷ behind []

-- the sets of an open set's pieces and those that come: one that is too late ends the set unfinished and begins another
abbrev pub sets_from : List Arrived → List Arrived → List Set
sets_from set [] = unfinished set
sets_from set (a ∷ rest) =
    if is_late set a
    then unfinished set ++ ended_by (λ next. sets_from next rest) (a ∷ []) (ending_with [] a)
    else ended_by (λ next. sets_from next rest) (set ++ a ∷ []) (ending_with set a)

-- a set of these pieces by its places
abbrev pub set_at : List Arrived → SetAt → Set
set_at all set = record { pieces = slice_range all set.first set.behind; ending = set.ending }

-- its places are those of a list of this length
pub record StandsIn (count : ℕ) (set : SetAt) : Type 0 where
  pub order : set.first ≤ set.behind
  pub within : set.behind ≤ count
