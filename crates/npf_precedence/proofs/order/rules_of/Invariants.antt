use Rattle.std.proofs.Common.{◌≡◌, flat_map, map, take}
use Rattle.npf_model.specs.Verdict.{rules_at}
use Rattle.npf_precedence.specs.{Entry.ordered_rule, Precedence.rules_from}
use Rattle.npf_precedence.proofs.order.rules_of.Given as goal

abbrev pub invariant-loop-item : goal.invariant-loop-item
invariant-loop-item l = map ordered_rule l.rules.items ≡ rules_from l.group l.first (flat_map rules_at (take l.item-index l.item-items))
