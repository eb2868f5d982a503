use Rattle.std.proofs.Common.{map, refl, sym, subst, ap, ◌∙◌, arith}
use Rattle.npf_products.specs.Product.{product_holds}
use Rattle.npf_reach.specs.Kinds.{AreKindsOf}
use Rattle.npf_compare_maps.proofs.SideLemmas.{side_behind, side_in_front}
use Rattle.npf_compare_maps.proofs.question.compare_ranked.Goals as goal

pub compare_cells-requires-clause-kinds : goal.compare_cells-requires-clause-kinds
compare_cells-requires-clause-kinds c =
    let tables = c.as_slice-3.result.now in
    let products = c.as_slice-4.result.now in
    let cells = c.in_ok-cells.cells.items in
    subst (AreKindsOf tables products) (sym c.as_slice-5.ensures.value)
    (subst (λ ps. AreKindsOf tables ps cells) (c.as_slice-2.ensures.value ∙ sym c.as_slice-4.ensures.value)
    (subst (λ ts. AreKindsOf ts c.as_slice-2.result.now cells) (c.as_slice.ensures.value ∙ sym c.as_slice-3.ensures.value) c.in_ok-cells.ensures.kinds))

pub compare_cells-requires-clause-before : goal.compare_cells-requires-clause-before
compare_cells-requires-clause-before c =
    side_in_front c.as_slice-3.result.now c.new-products.result.items c.add_products.new.products.items c.as_slice-4.result.now c.args.before c.args.after
    c.span_from-old_span.result c.span_from-new_span.result c.new-products.ensures.items c.in_ok-add_products.ensures
    (ap (map product_holds) c.as_slice-4.ensures.value ∙ c.in_ok-add_products-2.ensures) (c.as_slice-3.ensures.value ∙ c.in_ok-tables.ensures) _ refl refl
    c.span_from-old_span.ensures.first c.span_from-old_span.ensures.count c.requires.before

pub compare_cells-requires-clause-after : goal.compare_cells-requires-clause-after
compare_cells-requires-clause-after c =
    side_behind c.as_slice-3.result.now c.new-products.result.items c.add_products.new.products.items c.as_slice-4.result.now c.args.before c.args.after
    c.span_from-old_span.result c.span_from-new_span.result c.new-products.ensures.items c.in_ok-add_products.ensures
    (ap (map product_holds) c.as_slice-4.ensures.value ∙ c.in_ok-add_products-2.ensures) (c.as_slice-3.ensures.value ∙ c.in_ok-tables.ensures) _ refl (omega (arith, c.len-first.ensures))
    c.span_from-new_span.ensures.first c.span_from-new_span.ensures.count c.requires.after
