-- What a writer took that was opened, or wasn't.
use Rattle.std.specs.Prelude.{ℕ, List, Option, Result, Ok, Err}
use Rattle.std.specs.Io.KnownBytes.{Appends}

-- it was opened, and took the bytes behind what it held, where it tells that
abbrev pub TookBytes : {W E : Type 0} → (W → Option (List ℕ)) → Result W E → Result W E → List ℕ → Type 0
TookBytes contents (Ok before) (Ok after) bytes = Appends (contents before) (contents after) bytes
TookBytes contents _ _ bytes = ⊥
