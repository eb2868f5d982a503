use Rattle.std.{proofs.Common.{◌≡◌, ◌++◌, List, None, drop}, specs.List.flat_map}
use Rattle.npf_syntax.specs.declared.group.ItemTree.{ItemTree}
use Rattle.npf_check.specs.{Pair.first_beside, WrittenRule.{faults_of_group, items_in}}
use Rattle.npf_check.proofs.written_rule.in_groups.Given as goal

abbrev pub invariant-loop-stmt : goal.invariant-loop-stmt
invariant-loop-stmt l = (more : List (List ItemTree)) → first_beside faults_of_group None (flat_map (items_in l.kind) l.stmts ++ more) l.groups
    ≡ first_beside faults_of_group l.left.first (flat_map (items_in l.kind) (drop l.stmt-index l.stmts) ++ more) l.left.rest.now
