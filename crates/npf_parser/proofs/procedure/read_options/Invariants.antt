use Rattle.std.proofs.Common.{◌≡◌, length}
use Rattle.npf_phrase.{specs.Grammar.meaning, proofs.ListLemmas.extend}
use Rattle.npf_parser.specs.Procedure.{options}
use Rattle.npf_parser.proofs.procedure.read_options.Given as goal

abbrev pub invariant-options : goal.invariant-options
invariant-options l = (meaning options).read l.fn.tokens ≡ extend l.options.items ((meaning options).read l.rest)

abbrev pub decreases-options : goal.decreases-options
decreases-options l = length l.rest
