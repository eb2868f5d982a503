use Rattle.std.proofs.Common.{◌+◌, ◌*◌}
use Rattle.npf_connections_tests.proofs.returning.+fn-work_beside-join+arg3+work_beside.Given as goal

abbrev pub decreases-join+arg3 : goal.decreases-join+arg3
decreases-join+arg3 g l = 2 * l.number

abbrev pub decreases-work_beside : goal.decreases-work_beside
decreases-work_beside g l = 2 * l.number + 1
