-- The files before a work and after it, of which a call in its middle sees two moments inside.
use Rattle.std.specs.Prelude.{◌≡◌, ℕ, ◌≤◌, List}
use Rattle.npf_outside.specs.Files.{FilesMoment}

-- no count of reads fell
pub record CountsOn (before after : FilesMoment) : Type 0 where
  pub read_faults : before.read_faults ≤ after.read_faults
  pub read_faults_of : (name : List ℕ) → before.read_faults_of name ≤ after.read_faults_of name
  pub taken : before.taken ≤ after.taken

-- a call that leads from `old` to `new` is part of a work that leads from `before` to `after`, and that changed no file in front of the call
pub record Around (before old new after : FilesMoment) : Type 0 where
  pub contents : old.contents ≡ before.contents
  pub begun : CountsOn before old
  pub ended : CountsOn new after
