use Rattle.std.proofs.Common.{◌≡◌, ◌≤◌, ◌<◌, ◌+◌, ℕ, [], get_or, length}
use Rattle.npf_products.specs.declared.product.Product.{Product}
use Rattle.npf_products.specs.Adds.{AddsTest}
use Rattle.npf_products.specs.Product.{product_holds}
use Rattle.npf_products.proofs.lists.lists_of.Given as goal

abbrev pub invariant-loop-product : goal.invariant-loop-product
invariant-loop-product l = record {
  len : length l.lists.items ≡ l.product-index;
  products_are : (k : ℕ) (none : Product) → k < l.product-index → AddsTest l.kind [] (get_or l.lists.items k []) (product_holds (get_or l.products k none));
  most : l.steps.most ≡ l.fn.steps.most;
  counted : l.fn.steps.taken + l.product-index ≤ l.steps.taken;
  rises : l.fn.steps.taken ≤ l.steps.taken;
}
