use Rattle.npf_ctl_output.proofs.OutputLemmas.{are_outputs}
use Rattle.npf_ctl_output.proofs.laws.played_are_outputs.Goals as goal

pub returns : goal.returns
returns c = are_outputs
