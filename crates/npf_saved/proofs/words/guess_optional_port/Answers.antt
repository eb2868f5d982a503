use Rattle.std.{proofs.{Common.{◌<◌, ◌^◌, ℕ, refl, ap, ◌∙◌}, lemmas.Nat.from_be_bytes-to_be_bytes_2}, specs.Int.{w16, from_be_bytes, to_be_bytes}}
use Rattle.npf_saved.{specs.Spelling.hex_text, proofs.GuessLemmas.{dash_is_none, no_dash, not_dash, word_is_some}}
use Rattle.npf_saved.proofs.WordLemmas.{are_bytes, hex_read, number_lacks}
use Rattle.npf_saved.proofs.words.guess_optional_port.Goals as goal

pub returns-then-is_dash-clause-value : goal.returns-then-is_dash-clause-value
returns-then-is_dash-clause-value c = dash_is_none (λ (n : ℕ). n < 2 ^ 16) (hex_text w16) (λ n fits. no_dash (hex_text w16 n) (number_lacks w16 45 n refl))
    c.args.word.now (c.is_dash.ensures.0 c.if-is_dash.true)

pub returns-clause-value : goal.returns-clause-value
returns-clause-value c = word_is_some (λ (n : ℕ). n < 2 ^ 16) (hex_text w16) c.args.word.now c.from_be_bytes.result
    (not_dash c.args.word.now c.is_dash.result c.is_dash.ensures c.if-is_dash.false)
    (λ n fits is.
    c.from_be_bytes.ensures
    ∙ ap (from_be_bytes w16) (hex_read c.args.word.now 2 c.decode_to_slice.result c.decode_to_slice.new.out (to_be_bytes w16 n) (are_bytes 2 n) refl is c.decode_to_slice.ensures.value)
    ∙ from_be_bytes-to_be_bytes_2 n fits)
