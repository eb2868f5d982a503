use Rattle.npf_show_law.proofs.IfacesFit.{interfaces_fit_lem}
use Rattle.npf_show_law.proofs.interfaces_fit.Goals as goal

pub returns : goal.returns
returns c = interfaces_fit_lem
