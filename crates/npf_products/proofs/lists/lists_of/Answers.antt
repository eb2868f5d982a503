use Rattle.std.proofs.Common.{[], ◌∷◌, ◌∙◌, ap, arith, get_or, length, subst}
use Rattle.std.proofs.lemmas.List.{get_or_default, length-append}
use Rattle.npf_products.specs.declared.product.Product.{Product}
use Rattle.npf_products.specs.Adds.{AddsTest}
use Rattle.npf_products.specs.Product.{product_holds}
use Rattle.npf_products.proofs.PushLemmas.{push_each}
use Rattle.npf_products.proofs.lists.lists_of.Goals as goal

pub loop-product-preserved : goal.loop-product-preserved
loop-product-preserved c =
    let inv = c.loop-product.invariant in
    let kind = c.args.kind in
    let products = c.args.products.now in
    let i = c.loop-product.product-index in
    let old = c.loop-product.lists.items in
    let new = c.push.new.self.items in
    let conditions = c.in_ok-conditions_of.field-0 in
    let longer = ap length c.in_ok-push.ensures.items ∙ length-append old (conditions ∷ []) in
    let here : (none : Product) → AddsTest kind [] conditions (product_holds (get_or products i none)) = λ none.
    subst (λ (p : Product). AddsTest kind [] conditions (product_holds p))
    (c.product-item.is ∙ get_or_default products i c.product-item.result none c.loop-product-test.true) c.in_ok-conditions_of.ensures in
    record {
      len = omega (arith, longer, inv.len);
      products_are = λ k none low.
          push_each (λ n list. AddsTest kind [] list (product_holds (get_or products n none))) old new conditions [] i c.in_ok-push.ensures.items inv.len
          (λ n below. inv.products_are n none below) (here none) k low;
      most = c.in_ok-take.ensures.most ∙ inv.most;
      counted = omega (arith, c.in_ok-take.ensures.counted, inv.counted);
      rises = omega (arith, c.in_ok-take.ensures.rises, inv.rises);
    }
