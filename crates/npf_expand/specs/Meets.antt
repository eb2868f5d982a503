-- What the code keeps, and no part of what the language means: what was met so far, and what more is met behind it.
use Rattle.std.specs.Prelude.{◌≡◌, ◌+◌, ℕ, List}
use Rattle.npf_faults.specs.declared.fault.ConfFault.{ConfFault}
use Rattle.npf_faults.specs.First.{earlier, first_fault}
use Rattle.npf_expand_values.specs.Summary.{counted}
use Rattle.npf_expand.specs.declared.met.NodeTally.{NodeTally}

-- these faults and so many elements were met more
pub record Meets (old new : NodeTally) (faults : List ConfFault) (elements : ℕ) : Type 0 where
  pub first : new.first ≡ earlier old.first (first_fault faults)
  pub count : counted new.elements ≡ counted (old.elements + elements)
