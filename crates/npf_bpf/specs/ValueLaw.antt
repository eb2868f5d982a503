-- What holds of the value of every list of instructions.
use Rattle.std.specs.Prelude.{◌≡◌, ℕ, ◌+◌, ◌-◌, ◌≤◌, List, ◌++◌, length}
use Rattle.npf_bpf.specs.declared.insn.Insn.{Insn}
use Rattle.npf_bpf.specs.State.{BpfState}
use Rattle.npf_bpf.specs.Coprocessor.{Coprocessor}
use Rattle.npf_bpf.specs.Value.{value_from, steps_from}

-- behind other instructions the value is that of what stands there
abbrev pub TellsValueBehind : Type 0
TellsValueBehind =
    (front rest : List Insn) (i : ℕ) (s : BpfState) (p : List ℕ) (cop : Coprocessor)
    → value_from (front ++ rest) (length front + i) s p cop ≡ value_from rest i s p cop

-- from the i-th instruction on at most as many are carried out as stand there
abbrev pub StepsWithinLength : Type 0
StepsWithinLength =
    (code : List Insn) (i : ℕ) (s : BpfState) (p : List ℕ) (cop : Coprocessor)
    → steps_from code i s p cop ≤ length code - i
