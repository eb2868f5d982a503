use Rattle.npf_show_law.proofs.Accepted.{accepted_is_shown_lem}
use Rattle.npf_show_law.proofs.accepted_is_shown.Goals as goal

pub returns : goal.returns
returns c = accepted_is_shown_lem
