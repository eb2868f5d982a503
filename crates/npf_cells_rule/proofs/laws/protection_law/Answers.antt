use Rattle.npf_cells_rule.proofs.LawLemmas.{holds_back}
use Rattle.npf_cells_rule.proofs.laws.protection_law.Goals as goal

pub returns : goal.returns
returns g c = record { within = holds_back g.L.Law.meaning }
