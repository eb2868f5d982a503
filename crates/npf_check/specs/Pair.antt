-- Faults of pairs: of what the text says, each beside what it means.
use Rattle.std.specs.Prelude.{Option, List, zip}
use Rattle.std.specs.List.{flat_map}
use Rattle.npf_faults.specs.declared.fault.ConfFault.{ConfFault}
use Rattle.npf_faults.specs.First.{earlier, first_fault}

-- the first fault of these pairs and of those before, whose first fault it is given
abbrev pub first_beside : {A B : Type 0} → (A × B → List ConfFault) → Option ConfFault → List A → List B → Option ConfFault
first_beside faults before written meant = earlier before (first_fault (flat_map faults (zip written meant)))
