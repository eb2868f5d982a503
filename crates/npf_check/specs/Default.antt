-- A configuration has one default group (npf.conf(5), "Groups"). 40: it has none, told at the text's end. 41: it has a second one,
-- told at that.
use Rattle.std.specs.Prelude.{List, [], ◌∷◌}
use Rattle.std.specs.List.{flat_map}
use Rattle.npf_types.specs.declared.span.Span.{Span}
use Rattle.npf_faults.specs.declared.fault.ConfFault.{ConfFault}
use Rattle.npf_faults.specs.declared.fault.Fault.TheVariants.{NoDefault, TwoDefaults}
use Rattle.npf_syntax.specs.declared.group.GroupHead.TheVariants as Head
use Rattle.npf_syntax.specs.declared.stmt.Stmt.{Stmt}
use Rattle.npf_syntax.specs.declared.stmt.Tree.{Tree}
use Rattle.npf_faults.specs.First.{fault_at}

-- where a statement that is a default group stands
abbrev pub default_place : Stmt → List Span
default_place (Stmt.Group (Head.Default layer head) items span) = span ∷ []
default_place _ = []

-- the faults of so many default groups in a text with this end
abbrev pub one_default : Span → List Span → List ConfFault
one_default end [] = fault_at end NoDefault
one_default end (only ∷ []) = []
one_default end (first ∷ (second ∷ others)) = fault_at second TwoDefaults

abbrev pub default_faults : Tree → List ConfFault
default_faults tree = one_default tree.end (flat_map default_place tree.stmts)
