-- The value of a program: the number that it returns. What an instruction does is the table of
-- bpf(4).
--
-- Both definitions go down the list of instructions, and know no more of a program than what is
-- left of it: so the value of what stands in front of other instructions is told by the values of
-- those.
use Rattle.std.specs.Prelude.{ℕ, zero, suc, List, [], ◌∷◌, Option, Some, None}
use Rattle.npf_bpf.specs.declared.insn.Insn.{Insn}
use Rattle.npf_bpf.specs.declared.operation.Operation.{Operation}
use Rattle.npf_bpf.specs.Table.{decoded}
use Rattle.npf_bpf.specs.State.{BpfState, initial}
use Rattle.npf_bpf.specs.Coprocessor.{Coprocessor}
use Rattle.npf_bpf.specs.Effect.{Effect, Returns, Continues, effect_of}

-- what an instruction does; one that the table doesn't have, and that no valid program has, returns
-- 0
abbrev pub executed : Option Operation → BpfState → List ℕ → Coprocessor → Effect
executed None s p cop = Returns 0
executed (Some operation) s p cop = effect_of operation s p cop

-- a number that the program's return gives, or that the rest of the program does
abbrev pub followed : Effect → (ℕ → ℕ) → (ℕ → BpfState → ℕ) → ℕ
followed (Returns number) returned next = returned number
followed (Continues distance s) returned next = next distance s

-- the number that instructions return from the i-th on, counted from 0, in this state. A distance
-- counts from the next instruction, so it is a place among those that come after.
abbrev pub value_from : List Insn → ℕ → BpfState → List ℕ → Coprocessor → ℕ
value_from [] i s p cop = 0
value_from (insn ∷ rest) zero s p cop =
    followed (executed (decoded insn) s p cop) (λ number. number)
    (λ distance t. value_from rest distance t p cop)
value_from (insn ∷ rest) (suc i) s p cop = value_from rest i s p cop

-- how many instructions are carried out from the i-th on
abbrev pub steps_from : List Insn → ℕ → BpfState → List ℕ → Coprocessor → ℕ
steps_from [] i s p cop = 0
steps_from (insn ∷ rest) zero s p cop =
    suc (followed (executed (decoded insn) s p cop) (λ number. 0)
    (λ distance t. steps_from rest distance t p cop))
steps_from (insn ∷ rest) (suc i) s p cop = steps_from rest i s p cop

-- the number that a program returns, and how many steps it takes
abbrev pub program_value : List Insn → List ℕ → Coprocessor → ℕ
program_value code p cop = value_from code 0 initial p cop

abbrev pub program_steps : List Insn → List ℕ → Coprocessor → ℕ
program_steps code p cop = steps_from code 0 initial p cop
