-- What is said of a fault, unless memory ran out.
use Rattle.std.proofs.Common.{◌≢◌, subst}
use Rattle.npf_ctl_messages.specs.declared.fault.CommandFault.{CommandFault}
use Rattle.npf_ctl_messages.specs.declared.fault.CommandFault.TheVariants as Fault
use Rattle.npf_ctl_input.specs.Unless.{IfTold}

abbrev IsReal : CommandFault → Type 0
IsReal Fault.NoMemory = ⊥
IsReal fault = Unit {0}

pub told_unless : (P : CommandFault → Type 0) (fault : CommandFault) → (fault ≢ Fault.NoMemory → P fault) → IfTold P fault
told_unless P Fault.NoMemory says = tt
told_unless P fault says = says (λ same. subst IsReal same tt)
