use Rattle.std.proofs.Common.{◌≡◌, ◌+◌, ◌-◌, ◌≤◌, length, drop}
use Rattle.npf_lexer.specs.Run.{longest_run}
use Rattle.npf_lexer.proofs.run.longest_run.Given as goal

abbrev pub invariant-loop-len : goal.invariant-loop-len
invariant-loop-len l = record {
  within : l.len ≤ length l.text;
  counted : l.len + longest_run l.lettered (drop l.len l.text) ≡ longest_run l.lettered l.text;
}

abbrev pub decreases-loop-len : goal.decreases-loop-len
decreases-loop-len l = length l.text - l.len
