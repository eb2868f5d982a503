use Rattle.npf_why.proofs.IdleLemmas.{idle_settings_are_accepted_lem}
use Rattle.npf_why.proofs.laws.idle_settings_are_accepted.Goals as goal

pub returns : goal.returns
returns c = idle_settings_are_accepted_lem
