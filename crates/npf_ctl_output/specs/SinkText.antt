-- Why what a run puts out isn't put whole.
use Rattle.std.specs.Prelude.{ℕ, ⊤}
use Rattle.npf_outside.specs.Counts.{Rose}
use Rattle.npf_ctl_messages.specs.declared.fault.CommandFault.{CommandFault}
use Rattle.npf_ctl_messages.specs.declared.fault.CommandFault.TheVariants.{OutputUnwritten, NoMemory}

-- the sink refused, and its count of faults rose from the one number to the other; or memory was wanting
abbrev pub HasPutFault : ℕ → ℕ → CommandFault → Type 0
HasPutFault before after OutputUnwritten = Rose before after
HasPutFault before after NoMemory = ⊤
HasPutFault before after _ = ⊥
