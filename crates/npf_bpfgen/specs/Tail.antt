-- The end of a program, from some instruction on, and what is put in front of it. A program is built
-- from its last instruction to its first, so what stands behind an instruction is known when it is
-- put: its value, how far it goes, and whether each jump stays inside.
use Rattle.std.specs.Prelude.{◌≡◌, ℕ, ◌≤◌, Bool, if◌then◌else◌, List, [], ◌∷◌, ◌++◌, length, slice_index, Option, Some, None, ⊤}
use Rattle.npf_bpf.specs.declared.insn.Insn.{Insn}
use Rattle.npf_bpf.specs.Coprocessor.{Coprocessor}
use Rattle.npf_bpf.specs.State.{BpfState}
use Rattle.npf_bpf.specs.Validity.{KeepsRules}
use Rattle.npf_bpf.specs.Value.{value_from}

-- each instruction keeps the rules of bpf(4) where the others stand behind it
abbrev pub IsValidEnd : List Insn → Type 0
IsValidEnd [] = ⊤
IsValidEnd (insn ∷ rest) = KeepsRules insn (length rest) × IsValidEnd rest

-- `new` is `old` with `count` instructions in front of it. It is a valid end where `old` is one of at
-- least `least` instructions.
pub record Extends (count least : ℕ) (old new : List Insn) : Type 0 where
  pub front : List Insn
  pub is : new ≡ front ++ old
  pub size : length front ≡ count
  pub valid : least ≤ length old → IsValidEnd old → IsValidEnd new

-- the first words of the store M are what the coprocessor told of the packet's header
pub record IsReady (header : ℕ × ℕ × ℕ) (memory : List ℕ) : Type 0 where
  pub version : slice_index memory 0 ≡ header.0
  pub upper : slice_index memory 1 ≡ header.1
  pub protocol : slice_index memory 2 ≡ header.2

-- A is this number, if one is given
abbrev pub HasAccumulator : Option ℕ → BpfState → Type 0
HasAccumulator None state = ⊤
HasAccumulator (Some number) state = state.accumulator ≡ number

module _ (p : List ℕ) (cop : Coprocessor) (header : ℕ × ℕ × ℕ) where
  -- from a place on the instructions return this number, in each state that is ready and has this A
  abbrev pub Yields : Option ℕ → List Insn → ℕ → ℕ → Type 0
  Yields a code at number =
      (state : BpfState)
      → IsReady header state.memory → HasAccumulator a state
      → value_from code at state p cop ≡ number

  -- what stands in front of `old` goes on to it where the test holds, or else returns 0
  abbrev pub Guards : Option ℕ → Bool → List Insn → List Insn → Type 0
  Guards a test old new =
      (number : ℕ) → Yields a old 0 number → Yields a new 0 (if test then number else 0)

  -- what stands in front of `old` goes on to its first instruction where the test holds, or else to
  -- its second
  abbrev pub Branches : Option ℕ → Bool → List Insn → List Insn → Type 0
  Branches a test old new =
      (first second : ℕ)
      → Yields a old 0 first → Yields a old 1 second
      → Yields a new 0 (if test then first else second)

-- the same of tests on the number in A, whatever the packet and the coprocessor are
abbrev pub GuardsNumber : (ℕ → Bool) → List Insn → List Insn → Type 0
GuardsNumber test old new =
    (p : List ℕ) (cop : Coprocessor) (header : ℕ × ℕ × ℕ) (number : ℕ)
    → Guards p cop header (Some number) (test number) old new

abbrev pub BranchesOnNumber : (ℕ → Bool) → List Insn → List Insn → Type 0
BranchesOnNumber test old new =
    (p : List ℕ) (cop : Coprocessor) (header : ℕ × ℕ × ℕ) (number : ℕ)
    → Branches p cop header (Some number) (test number) old new
