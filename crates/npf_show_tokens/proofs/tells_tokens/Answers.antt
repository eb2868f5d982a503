use Rattle.npf_show_tokens.proofs.Told.{tells_tokens_lem}
use Rattle.npf_show_tokens.proofs.tells_tokens.Goals as goal

pub returns : goal.returns
returns c = tells_tokens_lem
