-- What steps on the epoch and on the readers make of what a pass knows of them.
use Rattle.std.specs.Prelude.{◌≡◌, ℕ, ◌+◌, ◌^◌, ◌≤◌, ◌==◌, ◌||◌, Bool, [], ◌∷◌, max, if◌then◌else◌}
use Rattle.npf_cells_pins.specs.declared.pin.EpochSide.{EpochSide}
use Rattle.npf_cells_pins.specs.declared.pin.Pin.{Pin}
use Rattle.npf_cells_pins.specs.declared.pin.Pin.TheVariants.{Idle, Pinned, Protected}
use Rattle.npf_cells_pins.specs.Epochs.{PinAllows}

-- a load of the epoch begins a new scan
abbrev pub loading : EpochSide → ℕ → EpochSide
loading side found = record side {
  loaded = found;
  scanned = [];
  behind = [];
  met = found;
  greatest = max side.greatest found;
  known = max side.known found;
}

abbrev pub pinning : EpochSide → ℕ → EpochSide
pinning side epoch = record side { pin = Pinned epoch }

-- the epoch that a pass pinned
abbrev pub pinned_epoch : Pin → ℕ
pinned_epoch Idle = 0
pinned_epoch (Pinned epoch) = epoch
pinned_epoch (Protected pinned epoch) = pinned

-- the second load fixes what is protected
abbrev pub protecting : EpochSide → ℕ → EpochSide
protecting side found = record side {
  pin = Protected (pinned_epoch side.pin) found;
  met = found;
  greatest = max side.greatest found;
  known = max side.known found;
}

abbrev pub unpinning : EpochSide → EpochSide
unpinning side = record side { pin = Idle }

-- a reader word is passed by where it is idle or pinned in the epoch that was loaded
abbrev pub passes_by : EpochSide → ℕ → Bool
passes_by side found = (found == 0) || (found == side.loaded + 1)

abbrev pub scanning : EpochSide → ℕ → ℕ → EpochSide
scanning side reader found = record side {
  scanned = if passes_by side found then reader ∷ side.scanned else side.scanned;
  behind = if passes_by side found then side.behind else reader ∷ side.behind;
}

-- the epoch is raised where it is still the one that was loaded, and the pass counts that it raised it
abbrev pub advancing : EpochSide → ℕ → EpochSide
advancing side found = record side {
  met = found;
  greatest = max side.greatest found;
  known = max side.known (if found == side.loaded then found + 1 else found);
  raises = side.raises + (if found == side.loaded then 1 else 0);
}

-- the pass loaded this epoch last
pub record HasLoaded (side : EpochSide) (epoch : ℕ) : Type 0 where
  pub last : side.loaded ≡ epoch
  pub some : 1 ≤ epoch

-- what a step on the epoch tells of the number that it found: an epoch of the table, not before what the pass knows, and within
-- what it protects
pub record IsMet (side : EpochSide) (found : ℕ) : Type 0 where
  pub from : 2 ≤ found
  pub most : found ≤ 2 ^ 62
  pub loaded : side.loaded ≤ found
  pub greatest : side.greatest ≤ found
  pub known : side.known ≤ found
  pub guarded : PinAllows side.pin found

-- it knows the later of the two epochs, and its counts are the sums of both; what else it knows and owns stays
abbrev pub joined_epochs : EpochSide → EpochSide → EpochSide
joined_epochs mine theirs = record mine {
  greatest = max mine.greatest theirs.greatest;
  known = max mine.known theirs.known;
  raises = mine.raises + theirs.raises;
}
