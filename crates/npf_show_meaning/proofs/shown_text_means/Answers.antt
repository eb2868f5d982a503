use Rattle.npf_show_meaning.proofs.ShownText.{shown_text_means_lem}
use Rattle.npf_show_meaning.proofs.shown_text_means.Goals as goal

pub returns : goal.returns
returns c = shown_text_means_lem
