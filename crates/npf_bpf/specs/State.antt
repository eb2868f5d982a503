-- What a program's instructions read and write: the accumulator A, the index register X, and the
-- scratch memory store M, a list of 16 words (McCanne and Jacobson 1993; bpf(4)).
use Rattle.std.specs.Prelude.{ℕ, List, replicate}

pub record BpfState : Type 0 where
  pub accumulator : ℕ
  pub index : ℕ
  pub memory : List ℕ

-- at first A, X and M are 0
abbrev pub initial : BpfState
initial = record { accumulator = 0; index = 0; memory = replicate 16 0 }
