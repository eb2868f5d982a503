use Rattle.std.proofs.Common.{◌+◌, ◌*◌}
use Rattle.npf_reass_tests.proofs.beside.+fn-offer_beside-join+arg2+offer_beside.Given as goal

abbrev pub decreases-join+arg2 : goal.decreases-join+arg2
decreases-join+arg2 g l = 2 * l.number

abbrev pub decreases-offer_beside : goal.decreases-offer_beside
decreases-offer_beside g l = 2 * l.number + 1
