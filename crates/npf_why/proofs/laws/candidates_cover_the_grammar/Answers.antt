use Rattle.npf_why.proofs.CoverLemmas.{candidates_cover}
use Rattle.npf_why.proofs.laws.candidates_cover_the_grammar.Goals as goal

pub returns : goal.returns
returns c = candidates_cover
