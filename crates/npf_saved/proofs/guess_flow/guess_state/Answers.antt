use Rattle.std.{proofs.Common.{◌≡◌, ◌++◌, ◌∷◌, [], ◌∙◌, refl, lit≤}, specs.Fmt.decimal}
use Rattle.npf_saved.{specs.Spelling.{bit_text, phase_number, side_text}, proofs.{CutLemmas.{rest_behind, word_before}, FieldLemmas.{phase_small, side_lacks}}}
use Rattle.npf_saved.proofs.WordLemmas.{bit_lacks, decimal_lacks}
use Rattle.npf_saved.proofs.guess_flow.guess_state.Goals as goal

pub returns-clause-value : goal.returns-clause-value
returns-clause-value c = λ state forward_fits backward_fits is.
    let phase = decimal (phase_number state.phase) in
    let strict = bit_text state.strict in
    let forward = side_text state.forward in
    let backward = side_text state.backward in
    let phase_lacks = decimal_lacks 58 (phase_number state.phase) (phase_small state.phase) (lit≤ tt) in
    let strict_lacks = bit_lacks 58 refl refl state.strict in
    let forward_lacks = side_lacks 58 (lit≤ tt) refl refl state.forward forward_fits in
    let behind_3 = forward ++ 58 ∷ backward in
    let behind_2 = strict ++ 58 ∷ behind_3 in
    let behind_1 = phase ++ 58 ∷ behind_2 in
    let one = c.cut.ensures.behind ∙ rest_behind 58 c.args.word.now (116 ∷ []) behind_1 is refl in
    let two = c.cut-2.ensures.behind ∙ rest_behind 58 c.cut.result.1.now phase behind_2 one phase_lacks in
    let three = c.cut-3.ensures.behind ∙ rest_behind 58 c.cut-2.result.1.now strict behind_3 two strict_lacks in
    let four = c.cut-4.ensures.behind ∙ rest_behind 58 c.cut-3.result.1.now forward backward three forward_lacks in
    let number_is = c.guess_number.ensures (phase_number state.phase) (phase_small state.phase)
    (c.cut-2.ensures.word ∙ word_before 58 c.cut.result.1.now phase behind_2 one phase_lacks) in
    let phase_is = c.phase_of.ensures state.phase number_is in
    let forward_is = c.guess_side.ensures.value state.forward forward_fits (c.cut-4.ensures.word ∙ word_before 58 c.cut-3.result.1.now forward backward three forward_lacks) in
    let backward_is = c.guess_side-2.ensures.value state.backward backward_fits four in
    let strict_is = c.guess_bit.ensures state.strict (c.cut-3.ensures.word ∙ word_before 58 c.cut-2.result.1.now strict behind_3 two strict_lacks) in
    λ i. record { phase = phase_is i; forward = forward_is i; backward = backward_is i; strict = strict_is i }
