-- Why a command that asks about a class comes to no answer.
use Rattle.std.specs.Prelude.{◌≡◌, ◌<◌, ◌+◌, ⊤, ℕ, Err, List, codes, length}
use Rattle.npf_faults.specs.declared.fault.Refused.TheVariants.{Fault}
use Rattle.npf_model.specs.declared.iface.Iface.{Iface}
use Rattle.npf_model.specs.declared.model.Model.{Model}
use Rattle.npf_steps.specs.declared.steps.Stopped.{Stopped}
use Rattle.npf_steps.specs.declared.steps.Stopped.TheVariants as Stop
use Rattle.npf_class.specs.declared.read.TheConstants.{MAX_CLASS_BYTES}
use Rattle.npf_class.specs.Class.{ReadsClass}
use Rattle.npf_ctl_messages.specs.declared.fault.CommandFault.{CommandFault}
use Rattle.npf_ctl_messages.specs.declared.fault.CommandFault.TheVariants.{Configuration, Long, NoMemory, Steps}

-- the class's text has a fault or is too long, which is told of the file `class`; want of memory says nothing
abbrev pub IsClassFault : List Iface → Model → List ℕ → CommandFault → Type 0
IsClassFault ifaces model text (Configuration file fault) = (file ≡ codes "class") × ReadsClass ifaces model text (Err (Fault fault))
IsClassFault ifaces model text (Long file most) = (file ≡ codes "class") × (most ≡ MAX_CLASS_BYTES) × (MAX_CLASS_BYTES < length text)
IsClassFault ifaces model text NoMemory = ⊤
IsClassFault ifaces model text _ = ⊥

-- a search that may take so many steps ended: it wanted one more, or memory ran out
abbrev pub stop_fault : Stopped → ℕ → CommandFault
stop_fault Stop.Spent most = Steps (most + 1) most
stop_fault Stop.NoMemory most = NoMemory
