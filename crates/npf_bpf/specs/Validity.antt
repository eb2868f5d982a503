-- The programs that are valid: the rules of bpf(4), and the number of instructions that this
-- profile allows.
use Rattle.std.specs.Prelude.{◌≢◌, ℕ, ◌-◌, ◌<◌, ◌≤◌, ◌⊎◌, List, length, slice_get, IsSomeAnd, ⊤}
use Rattle.npf_bpf.specs.declared.insn.Insn.{Insn}
use Rattle.npf_bpf.specs.declared.operation.Operand.TheVariants.{Constant}
use Rattle.npf_bpf.specs.declared.operation.Arithmetic.TheVariants.{Divide}
use Rattle.npf_bpf.specs.declared.operation.Operation.{Operation}
use Rattle.npf_bpf.specs.declared.operation.Operation.TheVariants.{LoadMemory, LoadIndexMemory, Store, StoreIndex, Calculate, Jump, JumpIf, ReturnConstant, ReturnAccumulator}
use Rattle.npf_bpf.specs.Table.{decoded}

-- the memory index is below 16
abbrev pub StaysInMemory : Operation → Type 0
StaysInMemory (LoadMemory k) = k < 16
StaysInMemory (LoadIndexMemory k) = k < 16
StaysInMemory (Store k) = k < 16
StaysInMemory (StoreIndex k) = k < 16
StaysInMemory _ = ⊤

-- a constant divisor isn't 0
abbrev pub DividesByNonzero : Operation → Type 0
DividesByNonzero (Calculate Divide (Constant k)) = k ≢ 0
DividesByNonzero _ = ⊤

-- a jump ends at one of the instructions that come after it
abbrev pub JumpsWithin : Operation → ℕ → Type 0
JumpsWithin (Jump k) after = k < after
JumpsWithin (JumpIf c o d) after = (d.on_true < after) × (d.on_false < after)
JumpsWithin _ after = ⊤

abbrev pub IsReturn : Operation → Type 0
IsReturn (ReturnConstant k) = ⊤
IsReturn ReturnAccumulator = ⊤
IsReturn _ = ⊥

-- the operation may stand where so many instructions come after it
pub record IsAllowed (operation : Operation) (after : ℕ) : Type 0 where
  pub memory : StaysInMemory operation
  pub divisor : DividesByNonzero operation
  pub jumps : JumpsWithin operation after
  pub last_returns : (0 < after) ⊎ IsReturn operation

-- the instruction is in the table, and may stand there
abbrev pub KeepsRules : Insn → ℕ → Type 0
KeepsRules insn after = IsSomeAnd (decoded insn) (λ operation. IsAllowed operation after)

-- there is an instruction at this place, and it keeps the rules
abbrev pub IsInOrder : List Insn → ℕ → Type 0
IsInOrder code at = IsSomeAnd (slice_get code at) (λ insn. KeepsRules insn (length code - 1 - at))

-- a valid program: 1 to 4,096 instructions, each in order
pub record IsValid (code : List Insn) : Type 0 where
  pub not_empty : 0 < length code
  pub not_long : length code ≤ 4096
  pub each : (at : ℕ) → at < length code → IsInOrder code at

-- the first place where a program isn't in order, or has an instruction too many. An empty program
-- isn't in order at 0, and one instruction too many stands at 4,096.
pub record IsFirstFault (code : List Insn) (at : ℕ) : Type 0 where
  pub before : (k : ℕ) → k < at → (k < 4096) × IsInOrder code k
  pub here : (at < 4096) × IsInOrder code at → ⊥
