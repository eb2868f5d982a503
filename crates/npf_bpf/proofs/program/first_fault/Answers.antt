use Rattle.std.proofs.{Common.{ℕ, ◌-◌, ◌<◌, List, length, get_or, below_more, refl, arith}, lemmas.Option.slice_get-get_or}
use Rattle.npf_bpf.specs.{declared.insn.Insn.Insn, Validity.{KeepsRules, IsInOrder}}
use Rattle.npf_bpf.proofs.program.first_fault.Goals as goal

-- the instruction that was read is in order
IsInOrder-read : (code : List Insn) (at : ℕ) (d : Insn) → at < length code → KeepsRules (get_or code at d) (length code - 1 - at) → IsInOrder code at
IsInOrder-read code at d within keeps = rw (slice_get-get_or code at d within) keeps

pub loop-at-preserved : goal.loop-at-preserved
loop-at-preserved c =
    (omega arith, below_more _ _ c.loop-at.invariant.1 (IsInOrder-read _ _ _ c.loop-at-test.true (c.if-not-is_in_order.ensures.0 refl)))
