use Rattle.std.proofs.Common.{◌≡◌, ℕ, Some, sym, ap, ◌∙◌}
use Rattle.npf_bpf.specs.{declared.operation.Operation.TheVariants.{Calculate, JumpIf}, Table.{decoded, insn_of, insn_with_operand}}
use Rattle.npf_bpf.proofs.TableLemmas.{insn_decodes}
use Rattle.npf_bpf.proofs.operation.Operation.insn.Goals as goal

pub returns-in-Calculate-clause-decodes : goal.returns-in-Calculate-clause-decodes
returns-in-Calculate-clause-decodes c =
    let of = c.in-Calculate in
    let is : c.insn_with_operand.result ≡ insn_of (Calculate of.arithmetic of.operand) =
    c.insn_with_operand.ensures ∙ ap (λ (code : ℕ). insn_with_operand code of.operand (record { on_true = 0; on_false = 0 })) c.code.ensures.value in
    ap decoded is ∙ insn_decodes (Calculate of.arithmetic of.operand) ∙ ap Some (sym of.is)

pub returns-in-JumpIf-clause-decodes : goal.returns-in-JumpIf-clause-decodes
returns-in-JumpIf-clause-decodes c =
    let of = c.in-JumpIf in
    let is : c.insn_with_operand-in-JumpIf.result ≡ insn_of (JumpIf of.comparison of.operand of.distances) =
    c.insn_with_operand-in-JumpIf.ensures ∙ ap (λ (code : ℕ). insn_with_operand code of.operand of.distances) c.code-in-JumpIf.ensures.value in
    ap decoded is ∙ insn_decodes (JumpIf of.comparison of.operand of.distances) ∙ ap Some (sym of.is)
