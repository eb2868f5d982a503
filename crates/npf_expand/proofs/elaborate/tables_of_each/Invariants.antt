use Rattle.std.{proofs.Common.{◌≡◌, take}, specs.List.flat_map}
use Rattle.npf_expand.specs.Table.{tables_of}
use Rattle.npf_expand.proofs.elaborate.tables_of_each.Given as goal

abbrev pub invariant-loop-stmt : goal.invariant-loop-stmt
invariant-loop-stmt l = record { so_far : l.tables.items ≡ flat_map tables_of (take l.stmt-index l.fn.stmts) }
