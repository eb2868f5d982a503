use Rattle.npf_rewrite.proofs.DecodedLemmas.{translated_decodes_lem}
use Rattle.npf_rewrite.proofs.laws.translated_decodes.Goals as goal

pub returns : goal.returns
returns c = translated_decodes_lem
