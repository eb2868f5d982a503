use Rattle.std.proofs.Common.{refl}
use Rattle.npf_saved.{specs.{Fields.FitsKeyText, Spelling.key_text}, proofs.FieldLemmas.key_lacks}
use Rattle.npf_saved.proofs.GuessLemmas.{dash_is_none, no_dash, not_dash, word_is_some}
use Rattle.npf_saved.proofs.guess.guess_optional_key.Goals as goal

pub returns-then-is_dash-clause-value : goal.returns-then-is_dash-clause-value
returns-then-is_dash-clause-value c = dash_is_none FitsKeyText key_text (λ key fits. no_dash (key_text key) (key_lacks 45 refl key refl)) c.args.word.now
    (c.is_dash.ensures.0 c.if-is_dash.true)

pub returns-clause-value : goal.returns-clause-value
returns-clause-value c = word_is_some FitsKeyText key_text c.args.word.now c.guess_key.result (not_dash c.args.word.now c.is_dash.result c.is_dash.ensures c.if-is_dash.false)
    c.guess_key.ensures.value
