-- The lines of procedures that no rule calls.
use Rattle.std.specs.Prelude.{ℕ, Bool, true, false, not, List, [], ◌++◌, codes}
use Rattle.std.specs.List.{flat_map, list_any, zip}
use Rattle.npf_model.specs.declared.procedure.Procedure.{Procedure}

-- nothing is told of a procedure that is used
abbrev pub found_procedure_line : Procedure × Bool → List ℕ
found_procedure_line (procedure, true) = []
found_procedure_line (procedure, false) = codes "procedure \"" ++ (procedure.name ++ codes "\" unused\n")

abbrev pub unused_procedure_lines : List Procedure → List Bool → List ℕ
unused_procedure_lines procedures used = flat_map found_procedure_line (zip procedures used)

abbrev pub some_unused_procedure : List Bool → Bool
some_unused_procedure used = list_any (λ one. not one) used
