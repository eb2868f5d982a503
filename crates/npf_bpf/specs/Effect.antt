-- What each operation does, in the order of bpf(4)'s table. The coprocessor's calls are those of
-- NetBSD's bpf(4), with the two functions that specs/Coprocessor.antt has.
use Rattle.std.specs.Prelude.{ℕ, ◌+◌, ◌-◌, ◌%◌, ◌^◌, Bool, List, length, Option, Some, None, if◌then◌else◌, nat_le, slice_index, slice_set}
use Rattle.npf_bpf.specs.declared.operation.Operand.{Operand}
use Rattle.npf_bpf.specs.declared.operation.Operand.TheVariants.{Constant, Index}
use Rattle.npf_bpf.specs.declared.operation.Comparison.{Comparison}
use Rattle.npf_bpf.specs.declared.operation.Distances.{Distances}
use Rattle.npf_bpf.specs.declared.operation.Operation.{Operation}
use Rattle.npf_bpf.specs.declared.operation.Operation.TheVariants.{LoadAbsolute, LoadIndirect, LoadConstant, LoadMemory, LoadLength, LoadIndexConstant, LoadIndexMemory, LoadIndexLength, LoadIndexHeader, Store, StoreIndex, Calculate, Negate, Jump, JumpIf, ReturnConstant, ReturnAccumulator, CopyToIndex, CopyToAccumulator, AskHeader, AskMember}
use Rattle.npf_bpf.specs.State.{BpfState}
use Rattle.npf_bpf.specs.Coprocessor.{Coprocessor}
use Rattle.npf_bpf.specs.Load.{loaded, header_length_at}
use Rattle.npf_bpf.specs.Arithmetic.{calculated, compared}

-- what an operation leads to: the program returns a number, or goes on at the instruction so far
-- behind the next one, in this state
pub data Effect : Type 0 where
  Returns : (number : ℕ) → Effect
  Continues : (distance : ℕ) (state : BpfState) → Effect

-- on to the next instruction, with another A, X or M
abbrev pub with_accumulator : BpfState → ℕ → Effect
with_accumulator s a = Continues 0 (record s { accumulator = a })

abbrev pub with_index : BpfState → ℕ → Effect
with_index s x = Continues 0 (record s { index = x })

abbrev pub with_memory : BpfState → List ℕ → Effect
with_memory s m = Continues 0 (record s { memory = m })

-- the program returns 0 where there is no number
abbrev pub or_return_0 : Option ℕ → (ℕ → Effect) → Effect
or_return_0 None go = Returns 0
or_return_0 (Some number) go = go number

-- the number that an operand stands for
abbrev pub operand_value : Operand → BpfState → ℕ
operand_value (Constant k) s = k
operand_value Index s = s.index

-- on as far as the comparison of A with the operand says
abbrev pub branched : Comparison → Operand → Distances → BpfState → Effect
branched comparison operand distances s =
    let is_so = compared comparison s.accumulator (operand_value operand s) in
    Continues (if is_so then distances.on_true else distances.on_false) s

-- M[0], M[1] and M[2] are the packet's IP version, offset of layer 4 and protocol, and A is the
-- version
abbrev pub with_ip_header : BpfState → ℕ × ℕ × ℕ → Effect
with_ip_header s header =
    Continues 0 (record s {
      accumulator = header.0;
      memory = slice_set (slice_set (slice_set s.memory 0 header.0) 1 header.1) 2 header.2;
    })

-- A is 1 where the table that A's low 31 bits name has the packet's address: the source where A's
-- top bit is set
abbrev pub with_member : BpfState → (ℕ → Bool → Bool) → Effect
with_member s member =
    let is_member = member (s.accumulator % 2 ^ 31) (nat_le (2 ^ 31) s.accumulator) in
    with_accumulator s (if is_member then 1 else 0)

-- what each operation does to a packet p
abbrev pub effect_of : Operation → BpfState → List ℕ → Coprocessor → Effect
effect_of (LoadAbsolute width k) s p cop = or_return_0 (loaded p width k) (with_accumulator s)
effect_of (LoadIndirect width k) s p cop =
    or_return_0 (loaded p width (s.index + k)) (with_accumulator s)
effect_of (LoadConstant k) s p cop = with_accumulator s k
effect_of (LoadMemory k) s p cop = with_accumulator s (slice_index s.memory k)
effect_of LoadLength s p cop = with_accumulator s (length p % 2 ^ 32)
effect_of (LoadIndexConstant k) s p cop = with_index s k
effect_of (LoadIndexMemory k) s p cop = with_index s (slice_index s.memory k)
effect_of LoadIndexLength s p cop = with_index s (length p % 2 ^ 32)
effect_of (LoadIndexHeader k) s p cop = or_return_0 (header_length_at p k) (with_index s)
effect_of (Store k) s p cop = with_memory s (slice_set s.memory k s.accumulator)
effect_of (StoreIndex k) s p cop = with_memory s (slice_set s.memory k s.index)
effect_of (Calculate arithmetic operand) s p cop =
    or_return_0 (calculated arithmetic s.accumulator (operand_value operand s)) (with_accumulator s)
effect_of Negate s p cop = with_accumulator s ((2 ^ 32 - s.accumulator) % 2 ^ 32)
effect_of (Jump k) s p cop = Continues k s
effect_of (JumpIf comparison operand distances) s p cop = branched comparison operand distances s
effect_of (ReturnConstant k) s p cop = Returns k
effect_of ReturnAccumulator s p cop = Returns s.accumulator
effect_of CopyToIndex s p cop = with_index s s.accumulator
effect_of CopyToAccumulator s p cop = with_accumulator s s.index
effect_of AskHeader s p cop = with_ip_header s cop.header
effect_of AskMember s p cop = with_member s cop.member
