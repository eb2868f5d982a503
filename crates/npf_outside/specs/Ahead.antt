-- A file that was read before it was asked for.
use Rattle.std.specs.Prelude.{◌≡◌, ℕ, List, Option, IsSomeAnd}
use Rattle.npf_outside.specs.declared.file_ahead.FileAhead.{FileAhead}

-- the file of this name was read ahead, and had these bytes
abbrev pub IsAhead : Option FileAhead → List ℕ → List ℕ → Type 0
IsAhead ahead name bytes = IsSomeAnd ahead (λ file. (file.name ≡ name) × (file.bytes.items ≡ bytes))
