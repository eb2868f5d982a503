-- The part of the rule on epochs: what a protected pass keeps the epoch from, and what a scan of the readers shows.
use Rattle.std.specs.Prelude.{◌≡◌, ℕ, ◌+◌, ◌^◌, ◌≤◌, ◌<◌, ◌==◌, List, length, Contains, slice_index, sum_by, if◌then◌else◌, []}
use mathlib.Core.Option.{some}
use lib.ListN.{get_elem?}
use Rattle.npf_connections.specs.Pass.{all_places}
use Rattle.npf_seats.specs.Sums.{occurs}
use Rattle.npf_cells_pins.specs.declared.pin.EpochSide.{EpochSide}
use Rattle.npf_cells_pins.specs.declared.pin.Pin.{Pin}
use Rattle.npf_cells_pins.specs.declared.pin.Pin.TheVariants.{Idle, Pinned, Protected}

-- a seat as this part sees it: the reader places that it owns, and what it knows of the epoch
pub record ReaderView : Type 0 where
  pub places : List ℕ
  pub side : EpochSide

-- a pass pins by the first of its reader places
abbrev pub pin_place : List ℕ → ℕ
pin_place places = slice_index places 0

-- what the reader word of a pass says: 0 where it is idle, otherwise the pinned epoch and one
abbrev pub pin_word : Pin → ℕ
pin_word Idle = 0
pin_word (Pinned epoch) = epoch + 1
pin_word (Protected pinned epoch) = pinned + 1

-- what stands in a reader place of the pass
abbrev pub reader_holds : ReaderView → ℕ → ℕ
reader_holds r place = if place == pin_place r.places then pin_word r.side.pin else 0

-- a pass that pinned e may meet the epochs from e on; one that is protected with g, only g and g + 1
abbrev pub PinAllows : Pin → ℕ → Type 0
PinAllows Idle now = Unit {0}
PinAllows (Pinned epoch) now = epoch ≤ now
PinAllows (Protected pinned epoch) now = (pinned ≤ epoch) × (epoch ≤ now) × (now ≤ epoch + 1)

-- a pass that isn't protected, or one whose protecting epoch is this or later
abbrev pub NotProtectedBefore : ℕ → Pin → Type 0
NotProtectedBefore epoch Idle = Unit {0}
NotProtectedBefore epoch (Pinned _) = Unit {0}
NotProtectedBefore epoch (Protected pinned protecting) = epoch ≤ protecting

-- each reader place was passed by since the epoch was loaded
abbrev pub HasScannedAll : EpochSide → Type 0
HasScannedAll side = (reader : ℕ) → reader < all_places → Contains side.scanned reader

-- what the part says of one seat
pub record FitsEpochs (now : ℕ) (reader : ℕ → ℕ) (r : ReaderView) : Type 0 where
  pub loaded : r.side.loaded ≤ now
  pub greatest : r.side.greatest ≤ now
  pub known : r.side.known ≤ now
  pub guards : PinAllows r.side.pin now
  -- each of its reader words is as it left it
  pub kept : (place : ℕ) → 1 ≤ occurs place r.places → reader place ≡ reader_holds r place
  -- only who owns a reader place is pinned
  pub pinned : length r.places ≡ 0 → r.side.pin ≡ Idle

-- how often the passes raised the epoch in all
abbrev pub all_raises : List ReaderView → ℕ
all_raises readings = sum_by (λ r. r.side.raises) readings

-- the first epoch is 2 and the last is 2^62, and each time that it was raised is counted by some seat; no seat that a scan passed by is protected from before the epoch that was loaded for it
pub record Epochs (now : ℕ) (reader : ℕ → ℕ) (readings : List ReaderView) : Type 0 where
  pub from : 2 ≤ now
  pub most : now ≤ 2 ^ 62
  pub counted : now ≡ 2 + all_raises readings
  pub each : (j : ℕ) (r : ReaderView) → get_elem? readings j ≡ some r → FitsEpochs now reader r
  pub scans : (i j : ℕ) (r q : ReaderView) → get_elem? readings i ≡ some r → get_elem? readings j ≡ some q →
      Contains r.side.scanned (pin_place q.places) → NotProtectedBefore r.side.loaded q.side.pin

-- a pass that knows nothing of the epoch
abbrev pub idle_side : EpochSide
idle_side = record { pin = Idle; loaded = 0; scanned = []; behind = []; met = 0; greatest = 0; known = 0; raises = 0 }
