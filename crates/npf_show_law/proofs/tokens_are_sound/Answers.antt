use Rattle.npf_show_law.proofs.Lexed.{text_sound}
use Rattle.npf_show_law.proofs.tokens_are_sound.Goals as goal

pub returns : goal.returns
returns c = text_sound
