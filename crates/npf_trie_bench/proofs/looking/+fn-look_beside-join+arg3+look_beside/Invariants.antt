use Rattle.std.proofs.Common.{◌+◌, ◌*◌}
use Rattle.npf_trie_bench.proofs.looking.+fn-look_beside-join+arg3+look_beside.Given as goal

abbrev pub decreases-join+arg3 : goal.decreases-join+arg3
decreases-join+arg3 g l = 2 * l.others

abbrev pub decreases-look_beside : goal.decreases-look_beside
decreases-look_beside g l = 2 * l.others + 1
