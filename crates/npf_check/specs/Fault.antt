-- The faults of a configuration that means something and yet can't be used: 40 to 49, in the order of their numbers.
-- READ 6 of docs/READING.md
use Rattle.std.specs.Prelude.{List, ◌++◌}
use Rattle.npf_faults.specs.declared.fault.ConfFault.{ConfFault}
use Rattle.npf_faults.specs.declared.fault.Refused.{Refused}
use Rattle.npf_syntax.specs.declared.stmt.Tree.{Tree}
use Rattle.npf_model.specs.declared.model.Model.{Model}
use Rattle.npf_faults.specs.First.{IsFirstFaultOf}
use Rattle.npf_check.specs.Default.{default_faults}
use Rattle.npf_check.specs.Duplicate.{duplicate_faults}
use Rattle.npf_check.specs.Limit.{limit_faults}
use Rattle.npf_check.specs.Map.{bad_map_faults}
use Rattle.npf_check.specs.Unbuilt.{unbuilt_faults}
use Rattle.npf_check.specs.Undefined.{undefined_table_faults, undefined_procedure_faults}
use Rattle.npf_check.specs.WrittenRule.{faults_of_rules}

-- all faults of a tree and its model
abbrev pub check_faults : Tree → Model → List ConfFault
check_faults tree model =
    default_faults tree
    ++ undefined_table_faults tree
    ++ undefined_procedure_faults tree
    ++ faults_of_rules tree model
    ++ duplicate_faults tree
    ++ bad_map_faults tree model
    ++ unbuilt_faults tree
    ++ limit_faults tree

-- why a configuration is refused: by the first of its faults, or for want of memory, which says nothing of it
abbrev pub RefusedByFirst : List ConfFault → Refused → Type 0
RefusedByFirst faults (Refused.Fault fault) = IsFirstFaultOf faults fault
RefusedByFirst faults Refused.NoMemory = Unit {0}
