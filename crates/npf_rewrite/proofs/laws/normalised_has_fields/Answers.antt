use Rattle.npf_rewrite.proofs.NormalisedFieldLemmas.{normalised_fields_lem}
use Rattle.npf_rewrite.proofs.laws.normalised_has_fields.Goals as goal

pub returns : goal.returns
returns c = normalised_fields_lem
