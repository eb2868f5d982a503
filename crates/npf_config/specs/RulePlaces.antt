-- Where the rules of a text stand, in the order in which they are inspected: those of groups with names, then the default group's.
use Rattle.std.specs.Prelude.{List, [], ◌++◌}
use Rattle.std.specs.List.{flat_map}
use Rattle.npf_types.specs.declared.span.Span.{Span}
use Rattle.npf_syntax.specs.declared.group.GroupHead.TheVariants as Head
use Rattle.npf_syntax.specs.declared.stmt.Stmt.{Stmt}
use Rattle.npf_syntax.specs.declared.stmt.Tree.{Tree}
use Rattle.npf_check.specs.Limit.{rule_place}

abbrev pub named_rule_places : Stmt → List Span
named_rule_places (Stmt.Group (Head.Named name dir layer on head) items span) = flat_map rule_place items
named_rule_places _ = []

abbrev pub default_rule_places : Stmt → List Span
default_rule_places (Stmt.Group (Head.Default layer head) items span) = flat_map rule_place items
default_rule_places _ = []

abbrev pub inspected_places : List Stmt → List Span
inspected_places stmts = flat_map named_rule_places stmts ++ flat_map default_rule_places stmts
