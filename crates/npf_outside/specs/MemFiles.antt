use Rattle.std.specs.Prelude.{◌≡◌, ◌↔◌, ◌⊎◌, ⊤, ℕ, ◌≤◌, List, [], length, Some, None, Result, OnOk, IsErrOf, Contains, map, count_by, string_bytes}
use Rattle.std.specs.Option.{option_map}
use Rattle.std.specs.BTreeMap.{get_by_text}
use Rattle.std.specs.Str.{bytes_eq}
use Rattle.npf_outside.specs.declared.files.FileFault.{FileFault}
use Rattle.npf_outside.specs.declared.files.FileFault.TheVariants as Fault
use Rattle.npf_outside.specs.declared.mem_files.MemFiles.{MemFiles}
use Rattle.npf_outside.specs.Calls.{planned, next_call}
use Rattle.npf_outside.specs.Counts.{Rose}
use Rattle.npf_outside.specs.Files.{Tree, FilesMoment, SameFiles, SameOthers, SameReadFaults}

-- the files that are there
abbrev pub tree_of : MemFiles → Tree
tree_of files name = option_map (λ bytes. bytes.items) (get_by_text files.files name)

-- the name of each read that failed
abbrev pub unread_names : MemFiles → List (List ℕ)
unread_names files = map string_bytes files.unread.items

-- how often this name is among the names
abbrev pub times : List (List ℕ) → List ℕ → ℕ
times names name = count_by (λ other. bytes_eq other name) names

-- files in memory tell all
abbrev pub files_moment : MemFiles → FilesMoment
files_moment files = record {
  contents = Some (tree_of files);
  read_faults = length (unread_names files);
  read_faults_of = times (unread_names files);
  write_faults = files.write_faults;
  taken = files.taken;
}

-- the next call, if it reads this file, is to fail
abbrev pub FailsRead : MemFiles → List ℕ → Type 0
FailsRead files name = Contains (planned files.calls) (next_call files.calls) ⊎ (tree_of files name ≡ None)

-- no files, no faults, nothing taken, no calls made and none that are to fail
pub record IsNewFiles (files : MemFiles) : Type 0 where
  pub empty : (name : List ℕ) → tree_of files name ≡ None
  pub unplanned : planned files.calls ≡ []
  pub no_calls : files.calls.made ≡ 0
  pub no_read_faults : unread_names files ≡ []
  pub no_write_faults : files.write_faults ≡ 0
  pub nothing_taken : files.taken ≡ 0

-- no fault was counted, nothing taken and no call made
pub record SameCounts (old new : MemFiles) : Type 0 where
  pub unread : unread_names new ≡ unread_names old
  pub write_faults : new.write_faults ≡ old.write_faults
  pub taken : new.taken ≡ old.taken
  pub calls : new.calls.made ≡ old.calls.made

-- what a write leaves and counts, whatever bytes the file of this name gets
pub record IsWrite (old new : MemFiles) (name : List ℕ) (result : Result ⊤ FileFault) : Type 0 where
  pub faultless : OnOk result (new.write_faults ≡ old.write_faults)
  pub short : IsErrOf result Fault.Long → ⊥
  pub failed : IsErrOf result Fault.Failed → Rose old.write_faults new.write_faults
  pub memory : IsErrOf result Fault.NoMemory → SameFiles (Some (tree_of old)) (Some (tree_of new))
  pub others : SameOthers (Some (tree_of old)) (Some (tree_of new)) name
  pub writes : old.write_faults ≤ new.write_faults
  pub reads : SameReadFaults (files_moment old) (files_moment new)
  pub taken : new.taken ≡ old.taken
  pub exactly : IsErrOf result Fault.Failed ↔ Contains (planned old.calls) (next_call old.calls)
  pub plan : planned new.calls ≡ planned old.calls
  pub calls : new.calls.made ≡ next_call old.calls
