use Rattle.std.proofs.Common.{◌+◌, ◌*◌}
use Rattle.npf_trie_bench.proofs.mapped.+fn-read_beside-join+arg3+read_beside.Given as goal

abbrev pub decreases-join+arg3 : goal.decreases-join+arg3
decreases-join+arg3 g l = 2 * l.others

abbrev pub decreases-read_beside : goal.decreases-read_beside
decreases-read_beside g l = 2 * l.others + 1
