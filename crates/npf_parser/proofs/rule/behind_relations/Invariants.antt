use Rattle.std.proofs.Common.{◌≡◌, length}
use Rattle.npf_phrase.specs.Grammar.{meaning}
use Rattle.npf_parser.specs.Rule.{relations}
use Rattle.npf_parser.proofs.rule.behind_relations.Given as goal

abbrev pub invariant-relations : goal.invariant-relations
invariant-relations l = (meaning relations).read l.fn.tokens ≡ (meaning relations).read l.rest

abbrev pub decreases-relations : goal.decreases-relations
decreases-relations l = length l.rest
