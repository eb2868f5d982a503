use Rattle.npf_ruleset.specs.Tables.{entries}
use Rattle.npf_explain.proofs.GroupLemmas.{tells_map}
use Rattle.npf_explain.proofs.maps.maps_told.Goals as goal

pub loop-at-preserved : goal.loop-at-preserved
loop-at-preserved c =
    tells_map (entries c.args.asked.now.tables.now) c.args.asked.now.facts.now c.args.asked.now.ifid c.args.asked.now.dir c.args.first c.args.maps.now c.loop-at.at
    c.index-maps-at.result c.loop-at.told.items c.push.new.self.items c.map_told.result c.loop-at-test.true c.index-maps-at.is c.loop-at.invariant c.map_told.ensures
    c.in_ok-push.ensures.items
