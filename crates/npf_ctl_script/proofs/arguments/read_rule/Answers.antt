use Rattle.npf_ctl_script.proofs.ArgumentLemmas.{no_rule}
use Rattle.npf_ctl_script.proofs.arguments.read_rule.Goals as goal

pub returns-in_default : goal.returns-in_default
returns-in_default c = no_rule c.args.text.now c.in_default.ensures
