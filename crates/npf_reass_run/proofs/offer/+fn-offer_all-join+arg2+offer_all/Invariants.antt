use Rattle.std.proofs.Common.{◌+◌, ◌*◌}
use Rattle.npf_reass_run.proofs.offer.+fn-offer_all-join+arg2+offer_all.Given as goal

abbrev pub decreases-join+arg2 : goal.decreases-join+arg2
decreases-join+arg2 g l = 2 * l.workers

abbrev pub decreases-offer_all : goal.decreases-offer_all
decreases-offer_all g l = 2 * l.workers + 1
