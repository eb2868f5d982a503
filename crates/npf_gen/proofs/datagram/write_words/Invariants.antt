use Rattle.std.proofs.Common.{◌≡◌, ◌++◌, take}
use Rattle.npf_gen.specs.Datagram.{word_bytes}
use Rattle.npf_gen.proofs.datagram.write_words.Given as goal

abbrev pub invariant-loop-word : goal.invariant-loop-word
invariant-loop-word l = l.out.items ≡ l.initial.out.items ++ word_bytes (take l.word-index l.words)
