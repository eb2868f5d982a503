use Rattle.std.{proofs.Common.{◌≡◌, ◌<◌, ◌^◌, ◌++◌, ◌∷◌, ◌∙◌, ℕ, refl, lit≤}, specs.Fmt.decimal}
use Rattle.npf_types.specs.Name.{name_bytes}
use Rattle.npf_saved.{specs.Spelling.{bit_text, or_dash}, proofs.{CutLemmas.{rest_behind, word_before}, FieldLemmas.{byte_lacks, size_lacks}}}
use Rattle.npf_saved.proofs.{NameLemmas.name_guessed, WordLemmas.bit_lacks}
use Rattle.npf_saved.proofs.guess.guess_action.Goals as goal

pub returns-clause-value : goal.returns-clause-value
returns-clause-value c = λ action fits is.
    let ttl = or_dash decimal action.min_ttl in
    let size = or_dash decimal action.max_mss in
    let bit = bit_text action.no_df in
    let name = or_dash name_bytes action.log in
    let ttl_lacks = byte_lacks 44 (lit≤ tt) refl action.min_ttl fits.min_ttl in
    let size_lacks = size_lacks 44 (lit≤ tt) refl action.max_mss fits.max_mss in
    let bit_lacks = bit_lacks 44 refl refl action.no_df in
    let behind_2 = bit ++ 44 ∷ name in
    let behind_1 = size ++ 44 ∷ behind_2 in
    let one = c.cut.ensures.behind ∙ rest_behind 44 c.args.word.now ttl behind_1 is ttl_lacks in
    let two = c.cut-2.ensures.behind ∙ rest_behind 44 c.cut.result.1.now size behind_2 one size_lacks in
    let three = c.cut-3.ensures.behind ∙ rest_behind 44 c.cut-2.result.1.now bit name two bit_lacks in
    let ttl_is = c.guess_optional_byte.ensures.value action.min_ttl fits.min_ttl (c.cut.ensures.word ∙ word_before 44 c.args.word.now ttl behind_1 is ttl_lacks) in
    let size_is = c.guess_optional_size.ensures.value action.max_mss fits.max_mss (c.cut-2.ensures.word ∙ word_before 44 c.cut.result.1.now size behind_2 one size_lacks) in
    let bit_is = c.guess_bit.ensures action.no_df (c.cut-3.ensures.word ∙ word_before 44 c.cut-2.result.1.now bit name two bit_lacks) in
    let log_is = name_guessed c.cut-3.result.1.now c.of.result action.log fits.log three c.of.ensures.named c.of.ensures.value in
    λ i. record { min_ttl = ttl_is i; max_mss = size_is i; no_df = bit_is i; log = log_is i }
