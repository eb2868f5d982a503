-- What files show at a moment, and what a call leaves of it.
use Rattle.std.specs.Prelude.{◌≡◌, ◌≢◌, ℕ, ◌<◌, List, length, Option, Some, None, IsSomeAnd, ⊤}
use Rattle.npf_outside.specs.Counts.{RoseByMore}

-- the files by the bytes of their names
abbrev pub Tree : Type 0
Tree = List ℕ → Option (List ℕ)

-- The contents, where they are told; how many reads failed, in all and of the file of each name; how many writes failed;
-- and how many bytes reads took.
pub record FilesMoment : Type 0 where
  pub contents : Option Tree
  pub read_faults : ℕ
  pub read_faults_of : List ℕ → ℕ
  pub write_faults : ℕ
  pub taken : ℕ

-- the file of this name has these bytes, where contents are told
abbrev pub Has : Option Tree → List ℕ → List ℕ → Type 0
Has None name bytes = ⊤
Has (Some tree) name bytes = tree name ≡ Some bytes

-- the file has more than `most` bytes where contents are told, and otherwise more than `most` bytes were taken
abbrev pub IsLonger : Option Tree → List ℕ → ℕ → ℕ → ℕ → Type 0
IsLonger None name most before now = RoseByMore most before now
IsLonger (Some tree) name most before now = IsSomeAnd (tree name) (λ bytes. most < length bytes)

-- every file is as before, where contents are told
abbrev pub SameFiles : Option Tree → Option Tree → Type 0
SameFiles None None = ⊤
SameFiles (Some old) (Some new) = (name : List ℕ) → new name ≡ old name
SameFiles _ _ = ⊥

-- every file but the one of this name is as before, where contents are told
abbrev pub SameOthers : Option Tree → Option Tree → List ℕ → Type 0
SameOthers None None name = ⊤
SameOthers (Some old) (Some new) name = (other : List ℕ) → other ≢ name → new other ≡ old other
SameOthers _ _ name = ⊥

-- no read failed
pub record SameReadFaults (before now : FilesMoment) : Type 0 where
  pub all : now.read_faults ≡ before.read_faults
  pub each : (name : List ℕ) → now.read_faults_of name ≡ before.read_faults_of name
