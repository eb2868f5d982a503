-- What a call comes to, of which nothing is said where memory runs out.
use Rattle.std.specs.Prelude.{Result, Ok, Err}
use Rattle.npf_types.specs.Stages.{Stage}
use Rattle.npf_ctl_messages.specs.declared.fault.CommandFault.{CommandFault}
use Rattle.npf_ctl_messages.specs.declared.fault.CommandFault.TheVariants.{NoMemory}

-- a fact of the fault; want of memory says nothing
abbrev pub IfTold : (CommandFault → Type 0) → CommandFault → Type 0
IfTold Says NoMemory = Unit {0}
IfTold Says fault = Says fault

-- the stage may come to what the call answers, as contracts see it, unless memory ran out
abbrev pub UnlessMemory : {A B : Type 0} → (A → B) → Result A CommandFault → Stage B CommandFault → Type 0
UnlessMemory value (Ok answer) stage = stage (Ok (value answer))
UnlessMemory value (Err fault) stage = IfTold (λ fault. stage (Err fault)) fault
