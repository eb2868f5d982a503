use Rattle.std.proofs.Common.{sym, ◌∙◌}
use Rattle.npf_ruleset.specs.Configuration.{configuration}
use Rattle.npf_engine.proofs.RulesLemmas.{rule_within}
use Rattle.npf_engine.proofs.rules.ruling_of.Goals as goal

pub rule-rule-requires : goal.rule-rule-requires
rule-rule-requires c = rule_within (configuration c.args.config.now) c.args.crossing.now.facts.now c.args.crossing.now.ifid c.args.crossing.now.dir c.in-Some.place (sym c.in-Some.is ∙ c.walk.ensures)
