use Rattle.std.proofs.Common.{◌≡◌, drop}
use Rattle.npf_model.specs.Verdict.{first_where}
use Rattle.npf_config_changes.specs.Rulesets.{are_one_name}
use Rattle.npf_config_changes.proofs.ruleset.table_place.Given as goal

abbrev pub invariant-loop-at : goal.invariant-loop-at
invariant-loop-at l =
    first_where (λ decl. are_one_name decl.name l.name) 0 l.decls ≡ first_where (λ decl. are_one_name decl.name l.name) l.at (drop l.at l.decls)
