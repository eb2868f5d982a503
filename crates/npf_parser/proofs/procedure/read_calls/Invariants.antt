use Rattle.std.proofs.Common.{◌≡◌, length}
use Rattle.npf_phrase.{specs.Grammar.meaning, proofs.ListLemmas.extend}
use Rattle.npf_parser.specs.Procedure.{calls}
use Rattle.npf_parser.proofs.procedure.read_calls.Given as goal

abbrev pub invariant-calls : goal.invariant-calls
invariant-calls l = (meaning calls).read l.fn.tokens ≡ extend l.calls.items ((meaning calls).read l.rest)

abbrev pub decreases-calls : goal.decreases-calls
decreases-calls l = length l.rest
