-- 46: a second variable, table, procedure, named group or ruleset of one name, told at its statement. Each kind has names of its own,
-- the rulesets of all groups together.
use Rattle.std.specs.Prelude.{ℕ, Bool, Option, List, [], ◌∷◌, ◌++◌}
use Rattle.std.specs.List.{flat_map}
use Rattle.npf_faults.specs.declared.fault.ConfFault.{ConfFault}
use Rattle.npf_faults.specs.declared.fault.Fault.TheVariants.{DuplicateName}
use Rattle.npf_syntax.specs.declared.group.ItemTree.{ItemTree}
use Rattle.npf_syntax.specs.declared.group.ItemTree.TheVariants as ItemIs
use Rattle.npf_syntax.specs.declared.stmt.Stmt.{Stmt}
use Rattle.npf_syntax.specs.declared.stmt.Tree.{Tree}
use Rattle.npf_faults.specs.First.{earlier, fault_if, first_fault}
use Rattle.npf_check.specs.declared.duplicate.Repeated.{Repeated}
use Rattle.npf_check.specs.declared.name.NameKind.TheVariants as Names
use Rattle.npf_check.specs.Name.{NameAt, holds, names_given, no_text, with_text}

-- the names that were given before: they are known, or stand in front of them in the list
abbrev pub repeated : (List ℕ → Bool) → List NameAt → List ConfFault
repeated known [] = []
repeated known (given ∷ others) = fault_if (known given.name) given.span DuplicateName ++ repeated (with_text given.name known) others

abbrev pub ruleset_given : ItemTree → List NameAt
ruleset_given (ItemIs.Rule rule span) = []
ruleset_given (ItemIs.Ruleset name dir on span) = record { name = name.text; span = span } ∷ []

abbrev pub rulesets_of_stmt : Stmt → List NameAt
rulesets_of_stmt (Stmt.Group head items span) = flat_map ruleset_given items
rulesets_of_stmt _ = []

abbrev pub duplicate_faults : Tree → List ConfFault
duplicate_faults tree =
    repeated no_text (names_given Names.Variable tree.stmts)
    ++ repeated no_text (names_given Names.Table tree.stmts)
    ++ repeated no_text (names_given Names.Procedure tree.stmts)
    ++ repeated no_text (names_given Names.Group tree.stmts)
    ++ repeated no_text (flat_map rulesets_of_stmt tree.stmts)

-- the first name that is given again, of those that the code has met and of these behind them
abbrev pub first_again : Repeated → List NameAt → Option ConfFault
first_again met names = earlier met.first (first_fault (repeated (holds met.names) names))
