-- The table of bpf(4): the code of each instruction, and what it does. The coprocessor's call is
-- that of NetBSD's bpf(4), with the two functions that NPF gives it.
use Rattle.std.specs.Prelude.{ℕ, ◌+◌, List, [], ◌∷◌, ◌++◌, Option, Some, None, if◌then◌else◌, ◌==◌}
use Rattle.npf_bpf.specs.declared.insn.Insn.{Insn}
use Rattle.npf_bpf.specs.declared.operation.Width.TheVariants.{Word, Half, Byte}
use Rattle.npf_bpf.specs.declared.operation.Operand.{Operand}
use Rattle.npf_bpf.specs.declared.operation.Operand.TheVariants.{Constant, Index}
use Rattle.npf_bpf.specs.declared.operation.Arithmetic.{Arithmetic}
use Rattle.npf_bpf.specs.declared.operation.Arithmetic.TheVariants.{Add, Subtract, Multiply, Divide, Or, And, ShiftLeft, ShiftRight}
use Rattle.npf_bpf.specs.declared.operation.Comparison.{Comparison}
use Rattle.npf_bpf.specs.declared.operation.Comparison.TheVariants.{Equal, Greater, GreaterOrEqual, AnyBit}
use Rattle.npf_bpf.specs.declared.operation.Distances.{Distances}
use Rattle.npf_bpf.specs.declared.operation.Operation.{Operation}
use Rattle.npf_bpf.specs.declared.operation.Operation.TheVariants.{LoadAbsolute, LoadIndirect, LoadConstant, LoadMemory, LoadLength, LoadIndexConstant, LoadIndexMemory, LoadIndexLength, LoadIndexHeader, Store, StoreIndex, Calculate, Negate, Jump, JumpIf, ReturnConstant, ReturnAccumulator, CopyToIndex, CopyToAccumulator, AskHeader, AskMember}

-- a row of the table: a code, and what the instruction does
abbrev pub Row : Type 0
Row = ℕ × Operation

-- the loads, the stores and the other instructions with one code each
abbrev pub with_one_code : Insn → List Row
with_one_code i =
    (0x20, LoadAbsolute Word i.k)
    ∷ (0x28, LoadAbsolute Half i.k)
    ∷ (0x30, LoadAbsolute Byte i.k)
    ∷ (0x40, LoadIndirect Word i.k)
    ∷ (0x48, LoadIndirect Half i.k)
    ∷ (0x50, LoadIndirect Byte i.k)
    ∷ (0x00, LoadConstant i.k)
    ∷ (0x60, LoadMemory i.k)
    ∷ (0x80, LoadLength)
    ∷ (0x01, LoadIndexConstant i.k)
    ∷ (0x61, LoadIndexMemory i.k)
    ∷ (0x81, LoadIndexLength)
    ∷ (0xb1, LoadIndexHeader i.k)
    ∷ (0x02, Store i.k)
    ∷ (0x03, StoreIndex i.k)
    ∷ (0x84, Negate)
    ∷ (0x05, Jump i.k)
    ∷ (0x06, ReturnConstant i.k)
    ∷ (0x16, ReturnAccumulator)
    ∷ (0x07, CopyToIndex)
    ∷ (0x87, CopyToAccumulator)
    ∷ []

-- how far a comparison goes on
abbrev pub distances_of : Insn → Distances
distances_of i = record { on_true = i.jt; on_false = i.jf }

-- the calculations and comparisons, each with k and, at a code 0x08 higher, with X
abbrev pub with_operand : Insn → List Row
with_operand i =
    (0x04, Calculate Add (Constant i.k))
    ∷ (0x14, Calculate Subtract (Constant i.k))
    ∷ (0x24, Calculate Multiply (Constant i.k))
    ∷ (0x34, Calculate Divide (Constant i.k))
    ∷ (0x44, Calculate Or (Constant i.k))
    ∷ (0x54, Calculate And (Constant i.k))
    ∷ (0x64, Calculate ShiftLeft (Constant i.k))
    ∷ (0x74, Calculate ShiftRight (Constant i.k))
    ∷ (0x0c, Calculate Add Index)
    ∷ (0x1c, Calculate Subtract Index)
    ∷ (0x2c, Calculate Multiply Index)
    ∷ (0x3c, Calculate Divide Index)
    ∷ (0x4c, Calculate Or Index)
    ∷ (0x5c, Calculate And Index)
    ∷ (0x6c, Calculate ShiftLeft Index)
    ∷ (0x7c, Calculate ShiftRight Index)
    ∷ (0x15, JumpIf Equal (Constant i.k) (distances_of i))
    ∷ (0x25, JumpIf Greater (Constant i.k) (distances_of i))
    ∷ (0x35, JumpIf GreaterOrEqual (Constant i.k) (distances_of i))
    ∷ (0x45, JumpIf AnyBit (Constant i.k) (distances_of i))
    ∷ (0x1d, JumpIf Equal Index (distances_of i))
    ∷ (0x2d, JumpIf Greater Index (distances_of i))
    ∷ (0x3d, JumpIf GreaterOrEqual Index (distances_of i))
    ∷ (0x4d, JumpIf AnyBit Index (distances_of i))
    ∷ []

-- what stands beside a code
abbrev pub lookup : ℕ → List Row → Option Operation
lookup code [] = None
lookup code (row ∷ rows) = if code == row.0 then Some row.1 else lookup code rows

-- a call of the coprocessor: it has the functions 0 and 1
abbrev pub coprocessor_call : ℕ → Option Operation
coprocessor_call k = if k == 0 then Some AskHeader else (if k == 1 then Some AskMember else None)

-- what an instruction does, or none where the table doesn't have it
abbrev pub decoded : Insn → Option Operation
decoded i =
    if i.code == 0x27 then coprocessor_call i.k else lookup i.code
    (with_one_code i ++ with_operand i)

-- The same table the other way. What an operation has no use for is 0.
abbrev pub plain_insn : ℕ → ℕ → Insn
plain_insn code k = record { code = code; jt = 0; jf = 0; k = k }

-- with an operand: at a code 0x08 higher it is X
abbrev pub insn_with_operand : ℕ → Operand → Distances → Insn
insn_with_operand code (Constant k) distances = record { code = code; jt = distances.on_true; jf = distances.on_false; k = k }
insn_with_operand code Index distances = record { code = code + 0x08; jt = distances.on_true; jf = distances.on_false; k = 0 }

abbrev pub arithmetic_code : Arithmetic → ℕ
arithmetic_code Add = 0x04
arithmetic_code Subtract = 0x14
arithmetic_code Multiply = 0x24
arithmetic_code Divide = 0x34
arithmetic_code Or = 0x44
arithmetic_code And = 0x54
arithmetic_code ShiftLeft = 0x64
arithmetic_code ShiftRight = 0x74

abbrev pub comparison_code : Comparison → ℕ
comparison_code Equal = 0x15
comparison_code Greater = 0x25
comparison_code GreaterOrEqual = 0x35
comparison_code AnyBit = 0x45

-- the instruction that does an operation
abbrev pub insn_of : Operation → Insn
insn_of (LoadAbsolute Word k) = plain_insn 0x20 k
insn_of (LoadAbsolute Half k) = plain_insn 0x28 k
insn_of (LoadAbsolute Byte k) = plain_insn 0x30 k
insn_of (LoadIndirect Word k) = plain_insn 0x40 k
insn_of (LoadIndirect Half k) = plain_insn 0x48 k
insn_of (LoadIndirect Byte k) = plain_insn 0x50 k
insn_of (LoadConstant k) = plain_insn 0x00 k
insn_of (LoadMemory k) = plain_insn 0x60 k
insn_of LoadLength = plain_insn 0x80 0
insn_of (LoadIndexConstant k) = plain_insn 0x01 k
insn_of (LoadIndexMemory k) = plain_insn 0x61 k
insn_of LoadIndexLength = plain_insn 0x81 0
insn_of (LoadIndexHeader k) = plain_insn 0xb1 k
insn_of (Store k) = plain_insn 0x02 k
insn_of (StoreIndex k) = plain_insn 0x03 k
insn_of (Calculate arithmetic operand) = insn_with_operand (arithmetic_code arithmetic) operand (record { on_true = 0; on_false = 0 })
insn_of Negate = plain_insn 0x84 0
insn_of (Jump k) = plain_insn 0x05 k
insn_of (JumpIf comparison operand distances) = insn_with_operand (comparison_code comparison) operand distances
insn_of (ReturnConstant k) = plain_insn 0x06 k
insn_of ReturnAccumulator = plain_insn 0x16 0
insn_of CopyToIndex = plain_insn 0x07 0
insn_of CopyToAccumulator = plain_insn 0x87 0
insn_of AskHeader = plain_insn 0x27 0
insn_of AskMember = plain_insn 0x27 1
