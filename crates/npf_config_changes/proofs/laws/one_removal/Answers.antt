use Rattle.npf_config_changes.proofs.LawLemmas.{one_flush, one_removal}
use Rattle.npf_config_changes.proofs.laws.one_removal.Goals as goal

pub returns-clause-one_removal : goal.returns-clause-one_removal
returns-clause-one_removal c = one_removal

pub returns-clause-one_flush : goal.returns-clause-one_flush
returns-clause-one_flush c = one_flush
