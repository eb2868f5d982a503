use Rattle.std.proofs.Common.{sym, subst}
use Rattle.std.specs.List.{Contains}
use Rattle.npf_reach.proofs.cells.cells_of.Goals as goal

pub returns-clause-kinds : goal.returns-clause-kinds
returns-clause-kinds c = record {
  each = c.in_ok-cells.ensures.each;
  whole = λ kind. subst (λ kinds. Contains kinds kind) (sym c.in_ok-cells.ensures.kinds) (c.kinds-all.ensures.each kind);
}
