use Rattle.std.{proofs.Common.{◌≡◌, ◌++◌, map, slice_get}, specs.List.{flat_map, range_with_len}}
use Rattle.npf_precedence.specs.Entry.{ordered_rule}
use Rattle.npf_ctl_explain.specs.{Beside.beside, Line.rule_line}
use Rattle.npf_ctl_explain.proofs.lines.write_rules.Given as goal

abbrev pub invariant-loop-at : goal.invariant-loop-at
invariant-loop-at l = l.into.items ≡ l.initial.into.items
    ++ flat_map (λ k. beside (rule_line l.model) (slice_get (map ordered_rule l.rules) k) (slice_get l.told k)) (range_with_len 0 l.at)
