-- How the machine stands for the states and effects of npf_bpf, by which a program's value is
-- defined.
use Rattle.std.specs.Prelude.{◌≡◌, ℕ, ◌-◌, List, length, Some, slice_get, IsSomeAnd}
use Rattle.npf_bpf.specs.declared.insn.Insn.{Insn}
use Rattle.npf_bpf.specs.declared.operation.Operation.{Operation}
use Rattle.npf_bpf.specs.Effect.{Effect, Returns, Continues}
use Rattle.npf_bpf.specs.State.{BpfState}
use Rattle.npf_bpf.specs.Table.{decoded}
use Rattle.npf_bpf.specs.Validity.{IsAllowed}
use Rattle.npf_bpfvm.specs.declared.machine.Registers.{Registers}
use Rattle.npf_bpfvm.specs.declared.machine.Next.{Next}
use Rattle.npf_bpfvm.specs.declared.machine.Next.TheVariants.{Onward, Returned}

-- the state that the registers hold
abbrev pub bpf_state : Registers → BpfState
bpf_state r = record { accumulator = r.accumulator; index = r.index; memory = r.memory }

-- the effect that the machine's step tells
abbrev pub effect_told : Next → Registers → Effect
effect_told (Onward distance) r = Continues distance (bpf_state r)
effect_told (Returned number) r = Returns number

-- the operation of an instruction of a valid program
pub record IsOperationAt (code : List Insn) (at : ℕ) (operation : Operation) : Type 0 where
  pub found : IsSomeAnd (slice_get code at) (λ insn. decoded insn ≡ Some operation)
  pub allowed : IsAllowed operation (length code - 1 - at)
