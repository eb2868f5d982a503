use Rattle.npf_treatment_law.proofs.{EngineLemmas.{handled_alike}, PlanLemmas.{plans_alike}}
use Rattle.npf_treatment_law.proofs.engine_follows_treatment.Goals as goal

pub returns-clause-plans : goal.returns-clause-plans
returns-clause-plans c = plans_alike

pub returns-clause-engine : goal.returns-clause-engine
returns-clause-engine c = handled_alike
