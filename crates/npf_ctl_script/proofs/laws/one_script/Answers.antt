use Rattle.npf_ctl_script.proofs.OneScriptLemmas as lemmas
use Rattle.npf_ctl_script.proofs.laws.one_script.Goals as goal

pub returns : goal.returns
returns c = lemmas.one_script
