use Rattle.std.proofs.Common.{◌≡◌, ◌++◌, map, take}
use Rattle.npf_judge.specs.Products.{entry_product}
use Rattle.npf_compare.proofs.products.add_rules.Given as goal

abbrev pub invariant-loop-entry : goal.invariant-loop-entry
invariant-loop-entry l = l.products.items ≡ l.initial.products.items ++ map (entry_product l.tables) (take l.entry-index l.order)
