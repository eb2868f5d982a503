use Rattle.std.{proofs.Common.{◌≡◌, codes, drop}, specs.{List.{flat_map, list_any}, Str.bytes_eq}}
use Rattle.npf_expand.specs.Settings.{algs_in, asks_icmp}
use Rattle.npf_expand.proofs.settings.asks_icmp.Given as goal

abbrev pub invariant-loop-stmt : goal.invariant-loop-stmt
invariant-loop-stmt l = record {
  left : asks_icmp l.fn.stmts ≡ list_any (bytes_eq (codes "icmp")) (flat_map algs_in (drop l.stmt-index l.fn.stmts));
}
