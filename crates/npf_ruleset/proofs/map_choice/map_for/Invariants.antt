use Rattle.std.proofs.Common.{◌≡◌, drop}
use Rattle.npf_model.specs.{Configuration.map_place_of, MapOf.map_applies, Verdict.first_where}
use Rattle.npf_ruleset.specs.{Configuration.configuration, Tables.entries}
use Rattle.npf_ruleset.proofs.map_choice.map_for.Given as goal

abbrev pub invariant-loop-at : goal.invariant-loop-at
invariant-loop-at l =
    map_place_of (configuration l.config) l.facts l.ifid l.dir
    ≡ first_where (map_applies (entries l.config.tables.items) l.facts l.ifid l.dir) l.at (drop l.at l.map-items)
