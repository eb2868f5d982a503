use Rattle.std.proofs.Common.{sym, subst, ◌∙◌}
use Rattle.npf_reach.specs.Kinds.{AreKindsOf}
use Rattle.npf_dead_groups.proofs.question.reached_in.Goals as goal

pub reached_cells-requires-clause-kinds : goal.reached_cells-requires-clause-kinds
reached_cells-requires-clause-kinds c =
    subst (AreKindsOf c.args.tables.now c.as_slice-products.result.now) (sym c.as_slice-2.ensures.value)
    (subst (λ all. AreKindsOf c.args.tables.now all c.in_ok-cells.cells.items) (c.as_slice.ensures.value ∙ sym c.as_slice-products.ensures.value) c.in_ok-cells.ensures.kinds)

pub reached_cells-requires-clause-products : goal.reached_cells-requires-clause-products
reached_cells-requires-clause-products c = record {
  span = c.span_of-span.result;
  first = c.span_of-span.ensures.first;
  count = c.span_of-span.ensures.count;
  are = c.as_slice-products.ensures.value ∙ c.in_ok-products.ensures;
}
