use Rattle.std.proofs.Common.{◌≤◌}
use Rattle.npf_runner_threads.proofs.busy.count_busy.Given as goal

abbrev pub invariant-loop-item : goal.invariant-loop-item
invariant-loop-item g l = l.count ≤ l.item-index
