use Rattle.std.{proofs.Common.{◌≡◌, ◌++◌, take}, specs.List.flat_map}
use Rattle.npf_show.specs.Filter.{letter_if_set, letters_of_bits}
use Rattle.npf_witness.proofs.witness.write_letters.Given as goal

abbrev pub invariant-loop-letter : goal.invariant-loop-letter
invariant-loop-letter l =
    l.into.items ≡ l.initial.into.items ++ flat_map (letter_if_set l.flags) (take l.letter-index letters_of_bits)
