use Rattle.std.proofs.Common.{sym, ◌∙◌}
use Rattle.npf_ruleset.specs.Configuration.{configuration}
use Rattle.npf_engine.proofs.RulesLemmas.{map_within}
use Rattle.npf_engine.proofs.rules.mapping_of.Goals as goal

pub map-map-requires : goal.map-map-requires
map-map-requires c = map_within (configuration c.args.config.now) c.args.crossing.now.facts.now c.args.crossing.now.ifid c.args.crossing.now.dir c.in-Some.place (sym c.in-Some.is ∙ c.map_for.ensures)
