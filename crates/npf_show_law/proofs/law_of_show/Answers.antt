use Rattle.npf_show_law.proofs.Accepted.{law_of_show_lem}
use Rattle.npf_show_law.proofs.law_of_show.Goals as goal

pub returns : goal.returns
returns c = law_of_show_lem
