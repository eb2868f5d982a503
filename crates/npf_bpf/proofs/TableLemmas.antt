-- The table gives each operation's instruction, and that the operation back.
use Rattle.std.proofs.Common.{◌≡◌, Some, refl}
use Rattle.npf_bpf.specs.declared.operation.Operand.TheVariants.{Constant, Index}
use Rattle.npf_bpf.specs.declared.operation.Arithmetic.TheVariants.{Add, Subtract, Multiply, Divide, Or, And, ShiftLeft, ShiftRight}
use Rattle.npf_bpf.specs.declared.operation.{Comparison.TheVariants.{Equal, Greater, GreaterOrEqual, AnyBit}, Operation.Operation}
use Rattle.npf_bpf.specs.declared.operation.{Operation.TheVariants.{LoadAbsolute, LoadIndirect, Calculate, JumpIf}, Width.TheVariants.{Word, Half, Byte}}
use Rattle.npf_bpf.specs.Table.{decoded, insn_of}

pub insn_decodes : (operation : Operation) → decoded (insn_of operation) ≡ Some operation
insn_decodes (LoadAbsolute Word k) = refl
insn_decodes (LoadAbsolute Half k) = refl
insn_decodes (LoadAbsolute Byte k) = refl
insn_decodes (LoadIndirect Word k) = refl
insn_decodes (LoadIndirect Half k) = refl
insn_decodes (LoadIndirect Byte k) = refl
insn_decodes (Calculate Add (Constant k)) = refl
insn_decodes (Calculate Add Index) = refl
insn_decodes (Calculate Subtract (Constant k)) = refl
insn_decodes (Calculate Subtract Index) = refl
insn_decodes (Calculate Multiply (Constant k)) = refl
insn_decodes (Calculate Multiply Index) = refl
insn_decodes (Calculate Divide (Constant k)) = refl
insn_decodes (Calculate Divide Index) = refl
insn_decodes (Calculate Or (Constant k)) = refl
insn_decodes (Calculate Or Index) = refl
insn_decodes (Calculate And (Constant k)) = refl
insn_decodes (Calculate And Index) = refl
insn_decodes (Calculate ShiftLeft (Constant k)) = refl
insn_decodes (Calculate ShiftLeft Index) = refl
insn_decodes (Calculate ShiftRight (Constant k)) = refl
insn_decodes (Calculate ShiftRight Index) = refl
insn_decodes (JumpIf Equal (Constant k) distances) = refl
insn_decodes (JumpIf Equal Index distances) = refl
insn_decodes (JumpIf Greater (Constant k) distances) = refl
insn_decodes (JumpIf Greater Index distances) = refl
insn_decodes (JumpIf GreaterOrEqual (Constant k) distances) = refl
insn_decodes (JumpIf GreaterOrEqual Index distances) = refl
insn_decodes (JumpIf AnyBit (Constant k) distances) = refl
insn_decodes (JumpIf AnyBit Index distances) = refl
insn_decodes operation = refl
