use Rattle.npf_reass_run.proofs.OneSetLemmas.{set_alone}
use Rattle.npf_reass_run.proofs.laws.one_set.Goals as goal

pub returns : goal.returns
returns c = set_alone
