use Rattle.std.proofs.Common.{◌≡◌, ◌+◌, ◌++◌, List, length, length-append, map, ap, ◌∙◌, arith}
use Rattle.npf_products.specs.declared.product.Product.{Product}
use Rattle.npf_judge.specs.Products.{entry_product}
use Rattle.npf_compare.proofs.products.products_of_both.Goals as goal

pub returns : goal.returns
returns c =
    let old = c.args.old in
    let new = c.args.new in
    let lengths : length c.args.tables.now ≡ length old.tables.now + length new.tables.now = ap length c.requires ∙ length-append old.tables.now new.tables.now in
    record {
      old_span = c.span_from-old_span.result;
      new_span = c.span_from-new_span.result;
      old_first = c.span_from-old_span.ensures.first;
      old_count = c.span_from-old_span.ensures.count;
      new_first = c.span_from-new_span.ensures.first;
      new_count = omega (arith, c.span_from-new_span.ensures.count, lengths);
      tables_are = c.requires;
      products_are =
          c.in_ok-add_rules-2.ensures
          ∙ ap (λ (ps : List Product). ps ++ map (entry_product c.span_from-new_span.result) new.order.now)
          (c.in_ok-add_rules.ensures ∙ ap (λ (ps : List Product). ps ++ map (entry_product c.span_from-old_span.result) old.order.now) c.new-products.ensures.items);
    }
