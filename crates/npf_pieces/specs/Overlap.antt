-- What is known of an open set without a look at its pieces again.
use Rattle.std.specs.Prelude.{◌≡◌, ℕ, ◌+◌, ◌*◌, ◌<◌, ◌==◌, nat_lt, max, if◌then◌else◌, Bool, false, zero, suc, List, [], ◌∷◌, All, slice_index}
use Rattle.std.specs.List.{list_any}
use Rattle.npf_types.specs.declared.limits.TheConstants.{MAX_PACKET_BYTES}
use Rattle.npf_pieces.specs.declared.arrived.Arrived.{Arrived}
use Rattle.npf_pieces.specs.declared.overlap.OpenSet.{OpenSet}
use Rattle.npf_pieces.specs.declared.piece.Piece.{Piece}
use Rattle.npf_pieces.specs.Piece.{IsGood, IsPlacedPiece}
use Rattle.npf_pieces.specs.Sets.{first_time, has, header_counted, is_last, passes_last, reach}

-- a piece of a packet, as `piece_of` finds it
pub record IsTaken (a : Arrived) : Type 0 where
  pub good : IsGood a.piece
  pub placed : IsPlacedPiece MAX_PACKET_BYTES a.piece

-- how many of the bytes below `size` pass a test
abbrev pub count_below : (ℕ → Bool) → ℕ → ℕ
count_below test zero = 0
count_below test (suc size) = count_below test size + (if test size then 1 else 0)

-- the header of a piece that begins a datagram, and the greatest of a set's
abbrev pub beginning_header : Piece → ℕ
beginning_header piece = if piece.from == 0 then header_counted piece else 0

abbrev pub greatest_header : List Arrived → ℕ
greatest_header [] = 0
greatest_header (a ∷ set) = max (beginning_header a.piece) (greatest_header set)

-- a unit of 8 bytes was filled since the set began
abbrev pub is_filled : OpenSet → ℕ → Bool
is_filled known unit = nat_lt known.first (slice_index known.filled.items unit)

-- these are the pieces of the open set
pub record KnowsSet (set : List Arrived) (known : OpenSet) : Type 0 where
  pub taken : All IsTaken set
  pub apart : passes_last set ≡ false
  pub begun : known.begun ≡ first_time set
  pub covered : known.covered ≡ count_below (has set) (reach set)
  pub reach : known.reach ≡ reach set
  pub ended : known.ended ≡ list_any is_last set
  pub header : known.header ≡ greatest_header set
  pub units : (unit : ℕ) → unit < 8192 → is_filled known unit ≡ has set (8 * unit)

-- all but the units is as it was
pub record KeepsTotals (old new : OpenSet) : Type 0 where
  pub first : new.first ≡ old.first
  pub behind : new.behind ≡ old.behind
  pub begun : new.begun ≡ old.begun
  pub covered : new.covered ≡ old.covered
  pub reach : new.reach ≡ old.reach
  pub ended : new.ended ≡ old.ended
  pub header : new.header ≡ old.header
