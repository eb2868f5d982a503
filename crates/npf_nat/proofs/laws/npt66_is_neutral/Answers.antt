use Rattle.npf_nat.proofs.NptLemmas.{npt66_neutral}
use Rattle.npf_nat.proofs.laws.npt66_is_neutral.Goals as goal

pub returns : goal.returns
returns c = npt66_neutral
