-- When two answers are one: both are values that are one, or both are faults that are told alike.
use Rattle.std.specs.Prelude.{Result, Ok, Err}

abbrev pub AreOne : {A F : Type 0} → (A → A → Type 0) → (F → F → Type 0) → Result A F → Result A F → Type 0
AreOne Same Alike (Ok a) (Ok b) = Same a b
AreOne Same Alike (Err fault) (Err other) = Alike fault other
AreOne Same Alike (Ok a) (Err fault) = ⊥
AreOne Same Alike (Err fault) (Ok a) = ⊥
