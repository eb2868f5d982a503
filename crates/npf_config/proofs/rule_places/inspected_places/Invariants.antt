use Rattle.std.{proofs.Common.{◌≡◌, ◌++◌, take}, specs.List.flat_map}
use Rattle.npf_config.specs.RulePlaces.{default_rule_places, named_rule_places}
use Rattle.npf_config.proofs.rule_places.inspected_places.Given as goal

abbrev pub invariant-named : goal.invariant-named
invariant-named l = record { so_far : l.places.items ≡ flat_map named_rule_places (take l.stmt-index l.fn.stmts) }

abbrev pub invariant-default : goal.invariant-default
invariant-default l = record {
  so_far : l.places.items ≡ flat_map named_rule_places l.fn.stmts ++ flat_map default_rule_places (take l.stmt-index l.fn.stmts);
}
