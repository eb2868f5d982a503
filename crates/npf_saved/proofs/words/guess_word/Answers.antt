use Rattle.std.{proofs.{Common.{refl, ap, ◌∙◌}, lemmas.Nat.from_be_bytes-to_be_bytes_8}, specs.Int.{w64, from_be_bytes, to_be_bytes}}
use Rattle.npf_saved.proofs.WordLemmas.{are_bytes, hex_read}
use Rattle.npf_saved.proofs.words.guess_word.Goals as goal

pub returns : goal.returns
returns c = λ n fits is.
    c.from_be_bytes.ensures
    ∙ ap (from_be_bytes w64) (hex_read c.args.word.now 8 c.decode_to_slice.result c.decode_to_slice.new.out (to_be_bytes w64 n) (are_bytes 8 n) refl is c.decode_to_slice.ensures.value)
    ∙ from_be_bytes-to_be_bytes_8 n fits
