use Rattle.npf_cells_rule.proofs.DeathLawLemmas.{rests_hold_back, sole_finds_left}
use Rattle.npf_cells_rule.proofs.laws.death_law.Goals as goal

pub returns : goal.returns
returns g c = record { rests = rests_hold_back g.L.Law.meaning; sole = sole_finds_left g.L.Law.meaning }
