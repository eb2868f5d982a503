use Rattle.npf_show_tokens.proofs.Values.{values_come_back_lem}
use Rattle.npf_show_tokens.proofs.values_come_back.Goals as goal

pub returns : goal.returns
returns c = values_come_back_lem
