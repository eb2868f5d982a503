use Rattle.std.proofs.Common.{◌≡◌, length}
use Rattle.npf_phrase.{specs.Grammar.meaning, proofs.ListLemmas.extend}
use Rattle.npf_parser_values.specs.Value.{ones}
use Rattle.npf_parser_values.proofs.protocol.read_ones.Given as goal

abbrev pub invariant-ones : goal.invariant-ones
invariant-ones l = (meaning ones).read l.fn.tokens ≡ extend l.ones.items ((meaning ones).read l.rest)

abbrev pub decreases-ones : goal.decreases-ones
decreases-ones l = length l.rest
