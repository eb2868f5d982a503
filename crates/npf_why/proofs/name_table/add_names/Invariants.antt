use Rattle.std.proofs.Common.{◌≡◌, ◌++◌, map, take}
use Rattle.npf_why.specs.NameTable.{name_texts}
use Rattle.npf_why.proofs.name_table.add_names.Given as goal

abbrev pub invariant-loop-row : goal.invariant-loop-row
invariant-loop-row l = record {
  so_far : map (λ name. name.now) l.names.items ≡ map (λ name. name.now) l.initial.names.items ++ name_texts (map (λ row. (row.0.now, row.1)) (take l.row-index l.fn.rows));
}
