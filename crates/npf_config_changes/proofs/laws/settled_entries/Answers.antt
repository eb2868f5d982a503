use Rattle.npf_config_changes.proofs.LawLemmas.{settled_addition, settled_removal}
use Rattle.npf_config_changes.proofs.laws.settled_entries.Goals as goal

pub returns-clause-addition : goal.returns-clause-addition
returns-clause-addition c = settled_addition

pub returns-clause-removal : goal.returns-clause-removal
returns-clause-removal c = settled_removal
