use Rattle.std.proofs.Common.{◌≡◌}
use Rattle.npf_ctl_query.specs.Seen.{some_blocks, some_passes}
use Rattle.npf_ctl_query.proofs.says.seen.Given as goal

abbrev pub invariant-loop-place : goal.invariant-loop-place
invariant-loop-place l = record {
  passed : l.passed ≡ some_passes l.config.model l.answer.rules.items l.place;
  blocked : l.blocked ≡ some_blocks l.config.model l.answer.rules.items l.place;
}
