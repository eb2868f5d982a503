use Rattle.npf_ctl_script.proofs.ArgumentLemmas.{no_table}
use Rattle.npf_ctl_script.proofs.arguments.read_table.Goals as goal

pub returns-in_default : goal.returns-in_default
returns-in_default c = no_table c.args.text.now c.in_default.ensures
