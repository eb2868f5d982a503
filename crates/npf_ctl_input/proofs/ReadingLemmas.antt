-- What is met between two moments of the files is met between two others: around a call, and where contents are told and no read fails.
use Rattle.std.proofs.Common.{◌≡◌, ℕ, ◌≤◌, Option, Some, None, List, subst, arith}
use Rattle.npf_outside.specs.{Counts.{Rose, StoodStill, count_after}, Files.{FilesMoment, IsLonger, Tree}}
use Rattle.npf_ctl_input.specs.{Around.Around, File.{ReadsWell, WasTaken, told_files}}

-- reads between `before` and `after` meet whatever reads between `old` and `new` do
pub record MeetsAll (old new before after : FilesMoment) : Type 0 where
  pub contents : old.contents ≡ before.contents
  pub longer : (name : List ℕ) (most : ℕ) → IsLonger old.contents name most old.taken new.taken → IsLonger before.contents name most before.taken after.taken
  pub taken : (count : ℕ) → WasTaken old.contents count old.taken new.taken → WasTaken before.contents count before.taken after.taken
  pub failed : (name : List ℕ) → Rose (old.read_faults_of name) (new.read_faults_of name) → Rose old.read_faults new.read_faults → Rose (before.read_faults_of name) (after.read_faults_of name)
  pub unread : Rose old.read_faults new.read_faults → Rose before.read_faults after.read_faults

rose_around : (before old new after : ℕ) → before ≤ old → new ≤ after → Rose old new → Rose before after
rose_around before old new after begun ended rose = omega arith

longer_around : (contents : Option Tree) (name : List ℕ) (most before old new after : ℕ) → before ≤ old → new ≤ after →
    IsLonger contents name most old new → IsLonger contents name most before after
longer_around None name most before old new after begun ended longer = omega arith
longer_around (Some tree) name most before old new after begun ended longer = longer

taken_around : (contents : Option Tree) (count before old new after : ℕ) → before ≤ old → new ≤ after → WasTaken contents count old new →
    WasTaken contents count before after
taken_around None count before old new after begun ended taken = omega arith
taken_around (Some tree) count before old new after begun ended taken = tt

-- all bytes of a file that was read were taken
pub taken_whole : (contents : Option Tree) (count before now : ℕ) → now ≡ count_after before count → WasTaken contents count before now
taken_whole None count before now took = omega arith
taken_whole (Some tree) count before now took = tt

-- a work meets what a call in it does
pub meets_around : (before old new after : FilesMoment) → Around before old new after → MeetsAll old new before after
meets_around before old new after around = record {
  contents = around.contents;
  longer = λ name most is. longer_around before.contents name most before.taken old.taken new.taken after.taken around.begun.taken around.ended.taken
      (subst (λ (contents : Option Tree). IsLonger contents name most old.taken new.taken) around.contents is);
  taken = λ count is. taken_around before.contents count before.taken old.taken new.taken after.taken around.begun.taken around.ended.taken
      (subst (λ (contents : Option Tree). WasTaken contents count old.taken new.taken) around.contents is);
  failed = λ name rose _.
      rose_around (before.read_faults_of name) (old.read_faults_of name) (new.read_faults_of name) (after.read_faults_of name)
      (around.begun.read_faults_of name) (around.ended.read_faults_of name) rose;
  unread = λ rose. rose_around before.read_faults old.read_faults new.read_faults after.read_faults around.begun.read_faults around.ended.read_faults rose;
}

stays : (before after : ℕ) → StoodStill before after → Rose before after → ⊥
stays before after still rose = omega (arith, still.0, still.1)

longer_told : (contents : Option Tree) (tree : Tree) → contents ≡ Some tree → (name : List ℕ) (most before after : ℕ) →
    IsLonger contents name most before after → IsLonger (Some tree) name most 0 0
longer_told contents tree told name most before after is = subst (λ (told : Option Tree). IsLonger told name most before after) told is

-- where contents are told and no read fails, the counts don't matter
pub meets_told : (tree : Tree) (before after : FilesMoment) → before.contents ≡ Some tree → ReadsWell before after →
    MeetsAll before after (told_files tree) (told_files tree)
meets_told tree before after told well = record {
  contents = told;
  longer = λ name most is. longer_told before.contents tree told name most before.taken after.taken is;
  taken = λ count is. tt;
  failed = λ name _ rose. absurd (stays before.read_faults after.read_faults well rose);
  unread = λ rose. absurd (stays before.read_faults after.read_faults well rose);
}
