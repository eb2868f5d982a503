use Rattle.npf_show_tokens.proofs.Shown.{shows_tokens_lem}
use Rattle.npf_show_tokens.proofs.shows_tokens.Goals as goal

pub returns : goal.returns
returns c = shows_tokens_lem
