use Rattle.std.{proofs.Common.{◌≡◌, ◌++◌, ◌∷◌, ℕ, List, slice_index, refl, ap, ◌∙◌}, specs.Int.w64}
use Rattle.npf_types.specs.declared.key.Key.{Key}
use Rattle.npf_saved.{specs.Spelling.hex_text, proofs.{CutLemmas.{rest_behind, word_before}, GuessLemmas.key_of_five, WordLemmas.number_lacks}}
use Rattle.npf_saved.proofs.guess.guess_key.Goals as goal

pub returns-clause-value : goal.returns-clause-value
returns-clause-value c = λ key fits is.
    let number : ℕ → ℕ = λ i. slice_index key.0 i in
    let hex : ℕ → List ℕ = λ i. hex_text w64 (number i) in
    let lack = λ (i : ℕ). number_lacks w64 46 (number i) refl in
    let behind_3 = hex 3 ++ 46 ∷ hex 4 in
    let behind_2 = hex 2 ++ 46 ∷ behind_3 in
    let behind_1 = hex 1 ++ 46 ∷ behind_2 in
    let one = c.cut.ensures.behind ∙ rest_behind 46 c.args.word.now (hex 0) behind_1 is (lack 0) in
    let two = c.cut-2.ensures.behind ∙ rest_behind 46 c.cut.result.1.now (hex 1) behind_2 one (lack 1) in
    let three = c.cut-3.ensures.behind ∙ rest_behind 46 c.cut-2.result.1.now (hex 2) behind_3 two (lack 2) in
    let four = c.cut-4.ensures.behind ∙ rest_behind 46 c.cut-3.result.1.now (hex 3) (hex 4) three (lack 3) in
    let first = c.guess_word.ensures (number 0) fits.first (c.cut.ensures.word ∙ word_before 46 c.args.word.now (hex 0) behind_1 is (lack 0)) in
    let second = c.guess_word-2.ensures (number 1) fits.second (c.cut-2.ensures.word ∙ word_before 46 c.cut.result.1.now (hex 1) behind_2 one (lack 1)) in
    let third = c.guess_word-3.ensures (number 2) fits.third (c.cut-3.ensures.word ∙ word_before 46 c.cut-2.result.1.now (hex 2) behind_3 two (lack 2)) in
    let fourth = c.guess_word-4.ensures (number 3) fits.fourth (c.cut-4.ensures.word ∙ word_before 46 c.cut-3.result.1.now (hex 3) (hex 4) three (lack 3)) in
    let fifth = c.guess_word-5.ensures (number 4) fits.fifth four in
    ap (λ (numbers : List ℕ). record { 0 = numbers }) (key_of_five key fits _ _ _ _ _ first second third fourth fifth)
