-- A limit that is asked for.
use Rattle.std.proofs.{Common.{◌≡◌, ◌≤◌, ◌<◌, ℕ, false, Ok, Err, inl, inr, nat_le, refl, arith}, lemmas.Bool.{le-leb, Decides.leb_tells}}
use Rattle.npf_types.specs.Stages.{Stage, ◌andthen◌, asks_that, goes_on, stops}
use Rattle.npf_config_changes.specs.{declared.fault.ChangeFault.ChangeFault, Told.EndsUnlessMemory}

past : (count most : ℕ) → most < count → nat_le count most ≡ false
past count most over = elim (leb_tells count most) [
  | inl is ↦ absurd (let within = is.1 in let wrong : ⊥ = omega arith in wrong)
  | inr is ↦ is.0
]

pub keeps_limit : (count most : ℕ) (fault : ChangeFault) → count ≤ most → asks_that (nat_le count most) fault (Ok tt)
keeps_limit count most fault within = rw (le-leb count most within) refl

pub passes_limit : (count most : ℕ) (fault : ChangeFault) → most < count → asks_that (nat_le count most) fault (Err fault)
passes_limit count most fault over = rw (past count most over) refl

-- what ends the first stage, or the next one, ends both
module _ {A B : Type 0} (first : Stage A ChangeFault) (next : A → Stage B ChangeFault) (fault : ChangeFault) where
  pub ends_first : EndsUnlessMemory first fault → EndsUnlessMemory (first andthen next) fault
  ends_first ends other = stops (ends other)

  pub ends_next : (a : A) → first (Ok a) → EndsUnlessMemory (next a) fault → EndsUnlessMemory (first andthen next) fault
  ends_next a is ends other = goes_on is (ends other)
