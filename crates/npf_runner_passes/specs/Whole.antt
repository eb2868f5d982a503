-- How passes are taken into a pass, one after the other, and what stands then.
use Rattle.std.specs.Prelude.{◌≡◌, ℕ, ◌≤◌, ◌+◌, max, List, [], ◌∷◌, ◌++◌, All, length, map, sum, Contains}
use Rattle.npf_core.specs.declared.entry.Entry.{Entry}
use Rattle.npf_core.specs.History.{IsPrefix, by}
use Rattle.npf_core.specs.Meaning.{Meaning}
use Rattle.npf_connections.specs.Pass.{Pass, IsPass, all_places}
use Rattle.npf_runner_passes.specs.Parts.{Spreads}

-- the numbers, reader places, sweeps and epochs of passes
abbrev pub numbers : {E : Type 0} → List (Pass E) → List ℕ
numbers {E} = map (λ (pass : Pass E). pass.number)

abbrev pub reader_places : {E : Type 0} → List (Pass E) → List ℕ
reader_places {E} = map (λ (pass : Pass E). pass.places)

abbrev pub sweep_counts : {E : Type 0} → List (Pass E) → List ℕ
sweep_counts {E} = map (λ (pass : Pass E). pass.sweeps)

-- the numbers that a pass lists which took these in, the last first
abbrev pub joined_after : {E : Type 0} → List ℕ → List (Pass E) → List ℕ
joined_after joined [] = joined
joined_after joined (pass ∷ passes) = joined_after (pass.number ∷ joined) passes

-- the greatest of an epoch and those of passes
abbrev pub greatest_epoch : {E : Type 0} → ℕ → List (Pass E) → ℕ
greatest_epoch epoch [] = epoch
greatest_epoch epoch (pass ∷ passes) = greatest_epoch (max epoch pass.epoch) passes

-- in the history stand the entries of the pass as it had seen them
pub record IsTakenIn {S A R : Type 0} (history : List (Entry S A R)) (pass : Pass (Entry S A R)) : Type 0 where
  pub begins : IsPrefix pass.history history
  pub own : by pass.number history ≡ by pass.number pass.history

-- the pass with another history, what it owns and lists then, and its counts
abbrev pub with_others : {E : Type 0} → Pass E → List E → ℕ → List ℕ → ℕ → ℕ → Pass E
with_others pass history places joined sweeps epoch =
    record pass { history = history; places = places; joined = joined; sweeps = sweeps; epoch = epoch }

-- the pass took these in, which had none joined into them, with their reader places, and did nothing itself
pub record Gathers {S A R : Type 0} (old now : Pass (Entry S A R)) (others : List (Pass (Entry S A R))) : Type 0 where
  pub begins : IsPrefix old.history now.history
  pub own : by old.number now.history ≡ by old.number old.history
  pub kept : (number : ℕ) → Contains old.joined number → by number now.history ≡ by number old.history
  pub each : All (IsTakenIn now.history) others
  pub takes : now ≡ with_others old now.history (old.places + sum (reader_places others)) (joined_after old.joined others)
      (old.sweeps + sum (sweep_counts others)) (greatest_epoch old.epoch others)

-- What a pass sees that was split and took all in again: its history went on by entries of the passes that were split off, which
-- stand there as each of these had seen its own. It owns the places that it had, the sweeps add up, and the epoch didn't fall.
pub record IsWhole {S A R : Type 0} (old now : Pass (Entry S A R)) (others : List (Pass (Entry S A R))) : Type 0 where
  pub added : List (Entry S A R)
  pub goes_on : now.history ≡ old.history ++ added
  pub seats : (entry : Entry S A R) → Contains added entry → Contains (numbers others) entry.seat
  pub each : All (IsTakenIn now.history) others
  pub left : now ≡ with_others old now.history old.places now.joined now.sweeps now.epoch
  pub sweeps : now.sweeps ≡ old.sweeps + sum (sweep_counts others)
  pub epoch : old.epoch ≤ now.epoch

-- so it is where the pass owned all reader places, and those that were split off still own one each
abbrev pub GathersAll : {S A R : Type 0} → Meaning S A R → Type 0
GathersAll {S} {A} {R} m =
    (old mid now : Pass (Entry S A R)) (given others : List (Pass (Entry S A R))) → Spreads old mid given → Gathers mid now others →
    length others ≡ length given → All (λ (other : Pass (Entry S A R)). other.places ≡ 1) others → old.places ≡ all_places → IsPass m now →
    IsWhole old now others
