use Rattle.std.proofs.Common.{◌≡◌, length}
use Rattle.npf_phrase.{specs.Grammar.meaning, proofs.ListLemmas.extend}
use Rattle.npf_parser_values.specs.Value.{listed_values}
use Rattle.npf_parser_values.proofs.value.read_listed_values.Given as goal

abbrev pub invariant-values : goal.invariant-values
invariant-values l = (meaning (listed_values l.fn.role)).read l.fn.tokens ≡ extend l.values.items ((meaning (listed_values l.fn.role)).read l.rest)

abbrev pub decreases-values : goal.decreases-values
decreases-values l = length l.rest
