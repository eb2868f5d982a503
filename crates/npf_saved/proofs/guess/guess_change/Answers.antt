use Rattle.std.proofs.Common.{◌≡◌, ◌++◌, ◌∷◌, ◌∙◌, refl}
use Rattle.npf_saved.{specs.Spelling.{bit_text, end_text, or_dash}, proofs.{CutLemmas.{rest_behind, word_before}, FieldLemmas.end_lacks}}
use Rattle.npf_saved.proofs.guess.guess_change.Goals as goal

pub returns-clause-value : goal.returns-clause-value
returns-clause-value c = λ change fits is.
    let src = or_dash end_text change.src in
    let dst = or_dash end_text change.dst in
    let bit = bit_text change.neutral in
    let src_lacks = end_lacks 47 refl change.src refl refl in
    let dst_lacks = end_lacks 47 refl change.dst refl refl in
    let one = c.cut.ensures.behind ∙ rest_behind 47 c.args.word.now src (dst ++ 47 ∷ bit) is src_lacks in
    let two = c.cut-2.ensures.behind ∙ rest_behind 47 c.cut.result.1.now dst bit one dst_lacks in
    let src_is = c.guess_optional_end.ensures.value change.src fits.0 (c.cut.ensures.word ∙ word_before 47 c.args.word.now src (dst ++ 47 ∷ bit) is src_lacks) in
    let dst_is = c.guess_optional_end-2.ensures.value change.dst fits.1 (c.cut-2.ensures.word ∙ word_before 47 c.cut.result.1.now dst bit one dst_lacks) in
    let neutral_is = c.guess_bit.ensures change.neutral two in
    λ i. record { src = src_is i; dst = dst_is i; neutral = neutral_is i }
