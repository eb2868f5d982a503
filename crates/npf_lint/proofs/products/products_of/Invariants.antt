use Rattle.std.proofs.Common.{◌≡◌, map, take}
use Rattle.npf_judge.specs.Products.{entry_product}
use Rattle.npf_lint.proofs.products.products_of.Given as goal

-- those of the entries so far
abbrev pub invariant-loop-entry : goal.invariant-loop-entry
invariant-loop-entry l = l.products.items ≡ map (entry_product l.tables) (take l.entry-index l.order)
