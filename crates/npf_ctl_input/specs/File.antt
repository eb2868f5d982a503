-- What reading a file comes to: all its bytes, where they are no more than are taken; that there are more; or that reading failed, by the
-- counts of this file and of all. What is said holds from one moment of the files to a later one.
use Rattle.std.specs.Prelude.{ℕ, ◌≤◌, Result, Ok, Err, Option, None, Some, List, length, ⊤}
use Rattle.npf_outside.specs.Counts.{Rose, StoodStill, count_after}
use Rattle.npf_outside.specs.Files.{FilesMoment, Has, IsLonger, Tree}
use Rattle.npf_ctl_messages.specs.declared.fault.CommandFault.{CommandFault}
use Rattle.npf_ctl_messages.specs.declared.fault.CommandFault.TheVariants.{Long, Unread}

-- so many bytes were taken at least, where contents aren't told
abbrev pub WasTaken : Option Tree → ℕ → ℕ → ℕ → Type 0
WasTaken None count before now = count_after before count ≤ now
WasTaken (Some tree) count before now = ⊤

pub data ReadsFile (before after : FilesMoment) (name : List ℕ) (most : ℕ) : Result (List ℕ) CommandFault → Type 0 where
  whole : {bytes : List ℕ} → Has before.contents name bytes → length bytes ≤ most →
      WasTaken before.contents (length bytes) before.taken after.taken → ReadsFile before after name most (Ok bytes)
  longer : IsLonger before.contents name most before.taken after.taken → ReadsFile before after name most (Err (Long name most))
  failed : Rose (before.read_faults_of name) (after.read_faults_of name) → Rose before.read_faults after.read_faults → ReadsFile before after name most (Err (Unread name))

-- files that tell these contents, of which no read failed
abbrev pub told_files : Tree → FilesMoment
told_files tree = record { contents = Some tree; read_faults = 0; read_faults_of = λ _. 0; write_faults = 0; taken = 0 }

-- no read failed
abbrev pub ReadsWell : FilesMoment → FilesMoment → Type 0
ReadsWell before after = StoodStill before.read_faults after.read_faults
