use Rattle.std.proofs.Common.{◌≡◌, ◌++◌, replicate}
use Rattle.npf_ctl_why.proofs.excerpt.write_blanks.Given as goal

abbrev pub invariant-loop-column : goal.invariant-loop-column
invariant-loop-column l = record {
  so_far : l.into.items ≡ l.initial.into.items ++ replicate l.column 32;
}
