use Rattle.npf_possible.proofs.TestedLemmas.{maps_test_alike, rules_test_alike}
use Rattle.npf_possible.proofs.laws.tested_alike.Goals as goal

pub returns-clause-rules : goal.returns-clause-rules
returns-clause-rules c = rules_test_alike

pub returns-clause-maps : goal.returns-clause-maps
returns-clause-maps c = maps_test_alike
