use Rattle.npf_conndb.proofs.VisitLemmas.{stays_here}
use Rattle.npf_conndb.proofs.collect.regain_left.Goals as goal

pub returns-else-left-ne0-clause-stays : goal.returns-else-left-ne0-clause-stays
returns-else-left-ne0-clause-stays g c = stays_here g.L.Law.meaning _ c.requires.legal c.requires.between
