use Rattle.npf_cells_rule.proofs.SoleLemmas.{raised_alone}
use Rattle.npf_cells_rule.proofs.laws.count_law.Goals as goal

pub returns-clause-counted : goal.returns-clause-counted
returns-clause-counted g c = λ layout digest s kept. kept.epochs.counted

pub returns-clause-sole : goal.returns-clause-sole
returns-clause-sole g c = λ layout digest s j v kept at all. raised_alone g.L.Law.meaning digest layout s j v kept at all
