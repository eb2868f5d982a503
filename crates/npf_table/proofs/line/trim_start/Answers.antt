use Rattle.std.proofs.Common.{sym, ◌∙◌, arith}
use Rattle.npf_table.proofs.{LineLemmas.blanks_skipped, line.trim_start.Goals.{then-loop-start-test+else-is_space, else-loop-start-test}}
use Rattle.npf_table.proofs.line.trim_start.Goals as goal

pub returns : goal.returns
returns c = blanks_skipped c.args.text.now c.loop-start.start c.loop-start.invariant.within c.loop-start.invariant.blank
    (elim c.loop-start-test.branch [
      | then-loop-start-test+else-is_space w ↦ λ _. sym w.is_space.ensures ∙ w.if-is_space.false
      | else-loop-start-test w ↦ λ more. absurd (omega (arith, more, w.loop-start-test.false))
    ])
