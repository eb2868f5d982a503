use Rattle.npf_rewrite.proofs.NormalisedDecodedLemmas.{normalised_decodes_lem}
use Rattle.npf_rewrite.proofs.laws.normalised_decodes.Goals as goal

pub returns : goal.returns
returns c = normalised_decodes_lem
