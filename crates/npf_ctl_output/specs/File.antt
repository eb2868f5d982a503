-- What writing a file leaves of the files.
use Rattle.std.specs.Prelude.{◌≡◌, ◌⊎◌, ℕ, List, Option, Some, None}
use Rattle.npf_outside.specs.Counts.{Rose}
use Rattle.npf_outside.specs.Files.{FilesMoment, SameFiles, SameOthers, SameReadFaults, Tree}
use Rattle.npf_ctl_messages.specs.declared.fault.CommandFault.{CommandFault}
use Rattle.npf_ctl_messages.specs.declared.fault.CommandFault.TheVariants.{NoMemory, Unwritten}

-- no read failed since, and none was made
pub record HasReadOn (before after : FilesMoment) : Type 0 where
  pub faults : SameReadFaults before after
  pub taken : after.taken ≡ before.taken

-- why the file of this name isn't written: a write failed; or memory was wanting, and then no file changed, or a write failed
abbrev pub IsUnwritten : FilesMoment → FilesMoment → List ℕ → CommandFault → Type 0
IsUnwritten before after name (Unwritten file) = (file ≡ name) × Rose before.write_faults after.write_faults
IsUnwritten before after name NoMemory = SameFiles before.contents after.contents ⊎ Rose before.write_faults after.write_faults
IsUnwritten before after name _ = ⊥

-- every file is as before but the one of this name, if there is one
abbrev pub KeepsUnnamed : Option (List ℕ) → Option Tree → Option Tree → Type 0
KeepsUnnamed None old new = SameFiles old new
KeepsUnnamed (Some name) old new = SameOthers old new name
