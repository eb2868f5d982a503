-- What a call at each place of a part does, where the part begins at a place of the whole.
use Rattle.std.specs.Prelude.{◌≡◌, ℕ, ◌+◌, ◌^◌, ◌<◌, List, length, slice_index_or}
use denote.Ref.{MutBor}
use denote.Param.Members.{Shared}
use Rattle.std.specs.Fork.{AcceptsAt, ChangesAt}

module _ {F T : Type 0} (g : Shared F (ℕ × (MutBor T × Unit {0})) ((Unit {0}) × (MutBor T × Unit {0}))) (f : F) (base : ℕ) where
  -- f may be called at each place of the part
  pub record IsAccepted (part : List T) : Type 0 where
    pub room : base + length part < 2 ^ 64
    pub each : (k : ℕ) (d : T) → k < length part → AcceptsAt g f (base + k) (slice_index_or part k d)

  -- each item of the part is what a call of f left at its place
  pub record IsChanged (old new : List T) : Type 0 where
    pub same_length : length new ≡ length old
    pub each : (k : ℕ) (d : T) → k < length old → ChangesAt g f (base + k) (slice_index_or old k d) (slice_index_or new k d)
