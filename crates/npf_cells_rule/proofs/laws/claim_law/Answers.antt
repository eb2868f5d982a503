use Rattle.npf_cells_rule.proofs.LawLemmas.{builds_alone, owns_alone}
use Rattle.npf_cells_rule.proofs.laws.claim_law.Goals as goal

pub returns-clause-alone : goal.returns-clause-alone
returns-clause-alone g c = owns_alone g.L.Law.meaning

pub returns-clause-builder : goal.returns-clause-builder
returns-clause-builder g c = builds_alone g.L.Law.meaning
