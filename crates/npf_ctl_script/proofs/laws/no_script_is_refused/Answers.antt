use Rattle.npf_ctl_script.proofs.OneScriptLemmas.{none_refused}
use Rattle.npf_ctl_script.proofs.laws.no_script_is_refused.Goals as goal

pub returns : goal.returns
returns c = none_refused
