use Rattle.std.proofs.Common.{◌≡◌, map}
use Rattle.std.specs.List.{range_with_len}
use Rattle.npf_unused.specs.Unused.{table_finding}
use Rattle.npf_unused.proofs.table.table_findings.Given as goal

abbrev pub invariant-loop-number : goal.invariant-loop-number
invariant-loop-number l =
    l.found.items ≡ map (table_finding (record { model = l.model; tables = l.tables })) (range_with_len 0 l.number)
