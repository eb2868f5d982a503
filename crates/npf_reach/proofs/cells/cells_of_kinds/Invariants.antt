use Rattle.std.proofs.Common.{◌≡◌, ◌≤◌, map, take}
use Rattle.std.specs.Prelude.{All}
use Rattle.npf_reach.specs.Kinds.{IsKindOf, cells_kind}
use Rattle.npf_reach.proofs.cells.cells_of_kinds.Given as goal

abbrev pub invariant-loop-kind : goal.invariant-loop-kind
invariant-loop-kind l = record {
  each : All (IsKindOf l.tables l.products) l.cells.items;
  kinds : map cells_kind l.cells.items ≡ take l.kind-index l.kinds;
  most : l.steps.most ≡ l.initial.steps.most;
  rises : l.initial.steps.taken ≤ l.steps.taken;
}
