use Rattle.std.{proofs.Common.{◌≡◌, ◌++◌, List, drop}, specs.List.flat_map}
use Rattle.npf_check.specs.{Duplicate.{first_again, ruleset_given}, Name.NameAt}
use Rattle.npf_check.proofs.duplicate.Repeated.meet_rulesets.Given as goal

abbrev pub invariant-loop-item : goal.invariant-loop-item
invariant-loop-item l = (names : List NameAt) → first_again l.fn.self (flat_map ruleset_given l.items ++ names)
    ≡ first_again l.self (flat_map ruleset_given (drop l.item-index l.items) ++ names)
