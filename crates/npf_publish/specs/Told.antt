use Rattle.std.specs.Prelude.{ℕ}
use Rattle.npf_publish.specs.declared.told.Told.{Told}

-- the number that a reader is told
abbrev pub told_number : Told → ℕ
told_number told = told.number
