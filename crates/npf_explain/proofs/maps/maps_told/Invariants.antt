use Rattle.std.proofs.Common.{◌≡◌, take}
use Rattle.npf_ruleset.specs.Tables.{entries}
use Rattle.npf_explain.specs.Explanation.{maps_told}
use Rattle.npf_explain.proofs.maps.maps_told.Given as goal

abbrev pub invariant-loop-at : goal.invariant-loop-at
invariant-loop-at l = l.told.items ≡ maps_told (entries l.asked.tables.now) l.asked.facts.now l.asked.ifid l.asked.dir l.first 0 (take l.at l.maps)
