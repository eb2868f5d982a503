use Rattle.std.proofs.Common.{sym, ◌∙◌, arith}
use Rattle.npf_table.proofs.{LineLemmas.blanks_cut, line.trim_end.Goals.{then-loop-end-test+else-is_space, else-loop-end-test}}
use Rattle.npf_table.proofs.line.trim_end.Goals as goal

pub returns : goal.returns
returns c = blanks_cut c.args.text.now c.loop-end.end c.loop-end.invariant.within c.loop-end.invariant.blank
    (elim c.loop-end-test.branch [
      | then-loop-end-test+else-is_space w ↦ λ _. sym w.is_space.ensures ∙ w.if-is_space.false
      | else-loop-end-test w ↦ λ more. absurd (omega (arith, more, w.loop-end-test.false))
    ])
