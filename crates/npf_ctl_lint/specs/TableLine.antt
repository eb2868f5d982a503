-- The lines of tables that nothing uses, and of those that are used and have no address.
use Rattle.std.specs.Prelude.{ℕ, Bool, true, false, List, [], ◌++◌, codes}
use Rattle.std.specs.List.{flat_map, list_any, zip}
use Rattle.npf_types.specs.Name.{name_bytes}
use Rattle.npf_model.specs.declared.table.TableDecl.{TableDecl}
use Rattle.npf_unused.specs.declared.table.TableFinding.{TableFinding}
use Rattle.npf_unused.specs.declared.table.TableFinding.TheVariants.{Used, Empty, Unused}

-- nothing is told of a table that is used and has an address
abbrev pub found_table_line : TableDecl × TableFinding → List ℕ
found_table_line (table, Used) = []
found_table_line (table, Empty) = codes "table <" ++ (name_bytes table.name ++ codes "> empty\n")
found_table_line (table, Unused) = codes "table <" ++ (name_bytes table.name ++ codes "> unused\n")

abbrev pub idle_table_lines : List TableDecl → List TableFinding → List ℕ
idle_table_lines tables found = flat_map found_table_line (zip tables found)

abbrev pub is_idle_table : TableFinding → Bool
is_idle_table Used = false
is_idle_table Empty = true
is_idle_table Unused = true

abbrev pub some_idle_table : List TableFinding → Bool
some_idle_table found = list_any is_idle_table found
