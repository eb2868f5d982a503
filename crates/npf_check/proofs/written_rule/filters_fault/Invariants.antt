use Rattle.std.{proofs.Common.{◌≡◌, None, drop}, specs.List.flat_map}
use Rattle.npf_check.specs.{Pair.first_beside, WrittenRule.{faults_of_pass, pass_of_map}}
use Rattle.npf_check.proofs.written_rule.filters_fault.Given as goal

abbrev pub invariant-loop-stmt : goal.invariant-loop-stmt
invariant-loop-stmt l = first_beside faults_of_pass None (flat_map pass_of_map l.stmts) l.maps
    ≡ first_beside faults_of_pass l.left.first (flat_map pass_of_map (drop l.stmt-index l.stmts)) l.left.rest.now
