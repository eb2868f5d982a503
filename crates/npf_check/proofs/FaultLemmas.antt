-- The first fault of what a statement has, put together from its parts.
use Rattle.std.proofs.Common.{◌≡◌, Option, List, ◌++◌, sym, ap₂, ◌∙◌}
use Rattle.npf_faults.{specs.{declared.fault.ConfFault.ConfFault, First.{earlier, first_fault}}, proofs.FirstLemmas.first_fault-append}

-- the earlier of the first faults of two lists
pub joined : (xs ys : List ConfFault) (x y both : Option ConfFault) → x ≡ first_fault xs → y ≡ first_fault ys → both ≡ earlier x y → both ≡ first_fault (xs ++ ys)
joined xs ys x y both is_x is_y is = is ∙ ap₂ earlier is_x is_y ∙ sym (first_fault-append xs ys)
