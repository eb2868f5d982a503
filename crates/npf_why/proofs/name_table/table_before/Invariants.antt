use Rattle.std.proofs.Common.{◌≡◌, None, drop, option_map}
use Rattle.npf_why.specs.{declared.name_table.NameTable.TheVariants.Unknown, NameTable.table_from}
use Rattle.npf_why.proofs.name_table.table_before.Given as goal

abbrev pub invariant-loop-token : goal.invariant-loop-token
invariant-loop-token l = record {
  left : table_from Unknown None l.fn.tokens ≡ table_from l.table (option_map (λ kind. kind.now) l.last) (drop l.token-index l.fn.tokens);
}
