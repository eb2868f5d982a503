use Rattle.npf_expand_renumbering.proofs.StmtLemmas.{renumbers_lem}
use Rattle.npf_expand_renumbering.proofs.renumbers.Goals as goal

pub returns : goal.returns
returns c = renumbers_lem
