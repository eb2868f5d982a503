use Rattle.std.proofs.Common.{refl, ◌∙◌}
use Rattle.npf_parser_values.proofs.LoopLemmas.{pass_goes, pass_ends}
use Rattle.npf_parser.specs.Rule.{relation, relations}
use Rattle.npf_parser.proofs.rule.behind_relations.Goals as goal

pub relations-preserved : goal.relations-preserved
unfolding relation relations
relations-preserved c = c.relations.invariant ∙ pass_goes relation refl refl c.relations.rest.now c.in-Some.next c.in-Some.ensures.begins

pub returns-in-None : goal.returns-in-None
unfolding relation relations
returns-in-None c = c.relations.invariant ∙ pass_ends relation refl refl c.relations.rest.now c.in-None.ensures.begins
