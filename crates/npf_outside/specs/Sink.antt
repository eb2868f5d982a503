-- What a sink shows at a moment, and what was put on it.
use Rattle.std.specs.Prelude.{◌≡◌, ℕ, List, ◌++◌, Option, Some, None, ⊤}

-- The bytes that were put, where they are told; how many calls failed; and how many bytes were put that a buffer of the
-- sink still keeps.
pub record SinkMoment : Type 0 where
  pub held : Option (List ℕ)
  pub faults : ℕ
  pub waiting : ℕ

-- the bytes were put after what was held, where that is told
abbrev pub Appends : Option (List ℕ) → Option (List ℕ) → List ℕ → Type 0
Appends None None bytes = ⊤
Appends (Some old) (Some new) bytes = new ≡ old ++ bytes
Appends _ _ bytes = ⊥

-- a front of the bytes, perhaps none or all, was put after what was held, where that is told
abbrev pub AppendsFront : Option (List ℕ) → Option (List ℕ) → List ℕ → Type 0
AppendsFront None None bytes = ⊤
AppendsFront (Some old) (Some new) bytes = (front rest : List ℕ) × (bytes ≡ front ++ rest) × (new ≡ old ++ front)
AppendsFront _ _ bytes = ⊥

-- of the text, all but `rest` was put since `old`
pub record IsPutTo (old now : Option (List ℕ)) (text rest : List ℕ) : Type 0 where
  pub said : List ℕ
  pub parts : text ≡ said ++ rest
  pub appends : Appends old now said
