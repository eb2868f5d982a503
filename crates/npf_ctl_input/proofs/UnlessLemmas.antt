-- What a call comes to, of which nothing is said where memory runs out, goes on to the stages behind it.
use Rattle.std.specs.Prelude.{Result, Ok, Err}
use Rattle.npf_types.specs.Stages.{Stage, ◌andthen◌, stops, goes_on}
use Rattle.npf_ctl_messages.specs.declared.fault.CommandFault.{CommandFault, TheVariants.NoMemory}
use Rattle.npf_ctl_input.specs.Unless.{IfTold, UnlessMemory}

pub told_lasts : (P Q : CommandFault → Type 0) → ((fault : CommandFault) → P fault → Q fault) → (fault : CommandFault) → IfTold P fault → IfTold Q fault
told_lasts P Q lasts NoMemory is = tt
told_lasts P Q lasts fault is = lasts fault is

-- what a stage comes to, a stage that comes to more comes to
pub unless_lasts :
    {A B : Type 0} (value : A → B) (stage wider : Stage B CommandFault) → ((result : Result B CommandFault) → stage result → wider result) →
    (answer : Result A CommandFault) → UnlessMemory value answer stage → UnlessMemory value answer wider
unless_lasts value stage wider lasts (Ok a) is = lasts (Ok (value a)) is
unless_lasts value stage wider lasts (Err fault) is = told_lasts (λ fault. stage (Err fault)) (λ fault. wider (Err fault)) (λ fault. lasts (Err fault)) fault is

-- a fault of the first stage ends both
pub stops_unless :
    {A B : Type 0} (first : Stage A CommandFault) (next : A → Stage B CommandFault) (fault : CommandFault) →
    IfTold (λ fault. first (Err fault)) fault → IfTold (λ fault. (first andthen next) (Err fault)) fault
stops_unless first next fault is = told_lasts (λ fault. first (Err fault)) (λ fault. (first andthen next) (Err fault)) (λ fault is. stops is) fault is

-- behind what the first stage came to, what the next one comes to is what both come to
pub goes_on_unless :
    {A B C : Type 0} (first : Stage A CommandFault) (next : A → Stage B CommandFault) (a : A) → first (Ok a) → (value : C → B) (answer : Result C CommandFault) →
    UnlessMemory value answer (next a) → UnlessMemory value answer (first andthen next)
goes_on_unless first next a is value answer then_is = unless_lasts value (next a) (first andthen next) (λ result then_is. goes_on is then_is) answer then_is
