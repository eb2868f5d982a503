use Rattle.std.proofs.Common.{take}
use Rattle.npf_products.specs.End.{HasItems}
use Rattle.npf_products.proofs.ends.add_items.Given as goal

abbrev pub invariant-loop-item : goal.invariant-loop-item
invariant-loop-item l = HasItems l.family l.tables (take l.item-index l.items) l.fn.condition l.condition
