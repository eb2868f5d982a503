use Rattle.std.{proofs.Common.{◌≡◌, ◌<◌, ◌^◌, ◌++◌, ◌∷◌, ◌∙◌, ℕ, refl, lit≤}, specs.Fmt.decimal}
use Rattle.npf_saved.{specs.Spelling.{known_number, or_dash}, proofs.{CutLemmas.{rest_behind, word_before}, FieldLemmas.{known_small, wider}}}
use Rattle.npf_saved.proofs.WordLemmas.{decimal_lacks}
use Rattle.npf_saved.proofs.guess_flow.guess_side.Goals as goal

pub returns-clause-value : goal.returns-clause-value
returns-clause-value c = λ side fits is.
    let known = decimal (known_number side.known) in
    let end = decimal side.end in
    let maxend = decimal side.maxend in
    let maxwin = decimal side.maxwin in
    let scale = or_dash decimal side.scale in
    let known_lacks = decimal_lacks 44 (known_number side.known) (known_small side.known) (lit≤ tt) in
    let end_lacks = decimal_lacks 44 side.end (wider side.end fits.end) (lit≤ tt) in
    let maxend_lacks = decimal_lacks 44 side.maxend (wider side.maxend fits.maxend) (lit≤ tt) in
    let maxwin_lacks = decimal_lacks 44 side.maxwin (wider side.maxwin fits.maxwin) (lit≤ tt) in
    let behind_3 = maxwin ++ 44 ∷ scale in
    let behind_2 = maxend ++ 44 ∷ behind_3 in
    let behind_1 = end ++ 44 ∷ behind_2 in
    let one = c.cut.ensures.behind ∙ rest_behind 44 c.args.word.now known behind_1 is known_lacks in
    let two = c.cut-2.ensures.behind ∙ rest_behind 44 c.cut.result.1.now end behind_2 one end_lacks in
    let three = c.cut-3.ensures.behind ∙ rest_behind 44 c.cut-2.result.1.now maxend behind_3 two maxend_lacks in
    let four = c.cut-4.ensures.behind ∙ rest_behind 44 c.cut-3.result.1.now maxwin scale three maxwin_lacks in
    let number_is = c.guess_number.ensures (known_number side.known) (known_small side.known)
    (c.cut.ensures.word ∙ word_before 44 c.args.word.now known behind_1 is known_lacks) in
    let known_is = c.known_of.ensures side.known number_is in
    let end_is = c.guess_u32.ensures side.end fits.end (c.cut-2.ensures.word ∙ word_before 44 c.cut.result.1.now end behind_2 one end_lacks) in
    let maxend_is = c.guess_u32-2.ensures side.maxend fits.maxend (c.cut-3.ensures.word ∙ word_before 44 c.cut-2.result.1.now maxend behind_3 two maxend_lacks) in
    let maxwin_is = c.guess_u32-3.ensures side.maxwin fits.maxwin (c.cut-4.ensures.word ∙ word_before 44 c.cut-3.result.1.now maxwin scale three maxwin_lacks) in
    let scale_is = c.guess_optional_byte.ensures.value side.scale fits.scale four in
    λ i. record { known = known_is i; end = end_is i; maxend = maxend_is i; maxwin = maxwin_is i; scale = scale_is i }
