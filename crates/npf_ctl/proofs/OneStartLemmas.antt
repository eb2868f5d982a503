-- Over told files, of which no read fails, what a run is started from is one plan, or faults of one status.
use Rattle.std.proofs.Common.{◌≡◌, ℕ, Option, Some, None, Result, Ok, Err, List, length, slice_get, refl, sym, ap, subst, arith}
use Rattle.npf_types.specs.{declared.{name.Name.Name, limits.TheConstants.MAX_SAVED_BYTES}, Stages.{◌andthen◌, gives}}
use Rattle.npf_outside.specs.Files.{Tree}
use Rattle.npf_config_law.{specs.Answers.AreOne, proofs.AnswerLemmas.one_behind}
use Rattle.npf_model.specs.declared.iface.Iface.{Iface}
use Rattle.npf_saved.specs.declared.saved.Saved.{Saved}
use Rattle.npf_saved_file.specs.{File.IsNoSavedFile, Refusal.{HasOtherInterfaces, HasTooMany, MayLoad}}
use Rattle.npf_ctl_messages.specs.{declared.fault.CommandFault.CommandFault, Message.status_of_fault}
use Rattle.npf_ctl_input.specs.File.{ReadsFile, told_files}
use Rattle.npf_ctl_prepare.specs.Prepares.{PreparesRun, RunNames, RunPlan}
use Rattle.npf_ctl_prepare_law.{specs.{Laws.OneRun, Readings.{AreOnePlan, EndAlike, bad_lines, equal, in_text, on_line}}, proofs.InputLemmas.one_file}
use Rattle.npf_ctl_saved.specs.Loads.{ListsConnections, ReadsConnections, bad, interface_names, listed, many, other}
use Rattle.npf_ctl.specs.Starting.{StartsRun}

-- the program answers one status to both
abbrev pub HaveOneStatus : CommandFault → CommandFault → Type 0
HaveOneStatus one two = status_of_fault one ≡ status_of_fault two

status_alike : (one two : CommandFault) → EndAlike one two → HaveOneStatus one two
status_alike one two (equal same) = ap status_of_fault same
status_alike _ _ (in_text stand) = refl
status_alike _ _ (on_line stand) = refl
status_alike _ _ bad_lines = refl

-- faults that are told alike have one status
pub told_alike : {A : Type 0} (Same : A → A → Type 0) (one two : Result A CommandFault) → AreOne Same EndAlike one two → AreOne Same HaveOneStatus one two
told_alike Same (Ok a) (Ok b) same = same
told_alike Same (Ok a) (Err g) never = never
told_alike Same (Err f) (Ok b) never = never
told_alike Same (Err f) (Err g) alike = status_alike f g alike

agree_of_equal : {A : Type 0} (one two : Result A CommandFault) → one ≡ two → AreOne (λ (a b : A). a ≡ b) HaveOneStatus one two
agree_of_equal (Ok a) (Ok b) same = cc
agree_of_equal (Ok a) (Err g) same = cc
agree_of_equal (Err f) (Ok b) same = cc
agree_of_equal (Err f) (Err g) same = let e : f ≡ g = cc in ap status_of_fault e

-- a text that may be loaded isn't refused
module _ (text : List ℕ) (names : List Name) (slots : ℕ) (conns : List Saved) (may : MayLoad text names slots conns) where
  none_bad : IsNoSavedFile text → ⊥
  none_bad none = none names conns may.file.file

  none_other : (line : ℕ) → HasOtherInterfaces text names line → ⊥
  none_other line has =
      let same = (may.file.only has.others has.conns has.file.file).0 in
      has.first.differs (ap (λ (all : List Name). slice_get all has.place) same)

  none_many : (count : ℕ) → HasTooMany text names slots count → ⊥
  none_many count has =
      let same = ap (λ (all : List Saved). length all) (may.file.only names has.conns has.file.file).1 in
      omega (arith, same, has.counted, has.many, may.room)

-- a text lists connections, or is refused, and never both
lists_agree : (names : List Name) (slots : ℕ) (file text : List ℕ) (one two : Result (List Saved) CommandFault) →
    ListsConnections names slots file text one → ListsConnections names slots file text two → AreOne (λ (a b : List Saved). Unit {0}) HaveOneStatus one two
lists_agree names slots file text _ _ (listed _) (listed _) = tt
lists_agree names slots file text _ _ (listed {conns = conns} may) (bad first) = none_bad text names slots conns may first.none
lists_agree names slots file text _ _ (listed {conns = conns} may) (other {line = line} has) = none_other text names slots conns may line has
lists_agree names slots file text _ _ (listed {conns = conns} may) (many {count = count} has) = none_many text names slots conns may count has
lists_agree names slots file text _ _ (bad first) (listed {conns = conns} may) = none_bad text names slots conns may first.none
lists_agree names slots file text _ _ (other {line = line} has) (listed {conns = conns} may) = none_other text names slots conns may line has
lists_agree names slots file text _ _ (many {count = count} has) (listed {conns = conns} may) = none_many text names slots conns may count has
lists_agree names slots file text _ _ (bad _) (bad _) = refl
lists_agree names slots file text _ _ (bad _) (other _) = refl
lists_agree names slots file text _ _ (bad _) (many _) = refl
lists_agree names slots file text _ _ (other _) (bad _) = refl
lists_agree names slots file text _ _ (other _) (other _) = refl
lists_agree names slots file text _ _ (other _) (many _) = refl
lists_agree names slots file text _ _ (many _) (bad _) = refl
lists_agree names slots file text _ _ (many _) (other _) = refl
lists_agree names slots file text _ _ (many _) (many _) = refl

module _ (tree : Tree) where
  connections_agree : (load : Option (List ℕ)) (names : List Name) (slots : ℕ) (one two : Result (List Saved) CommandFault) →
      ReadsConnections (told_files tree) (told_files tree) load names slots one → ReadsConnections (told_files tree) (told_files tree) load names slots two →
      AreOne (λ (a b : List Saved). Unit {0}) HaveOneStatus one two
  connections_agree None names slots one two is there = rw (is, there) tt
  connections_agree (Some file) names slots one two is there =
      one_behind (λ (a b : List ℕ). a ≡ b) (λ (a b : List Saved). Unit {0}) HaveOneStatus
      (ReadsFile (told_files tree) (told_files tree) file MAX_SAVED_BYTES) (ReadsFile (told_files tree) (told_files tree) file MAX_SAVED_BYTES)
      (ListsConnections names slots file) (ListsConnections names slots file)
      (λ first second reads also. agree_of_equal first second (one_file tree file MAX_SAVED_BYTES first second reads also))
      (λ text again _ _ same first second lists also.
      lists_agree names slots file text first second lists (subst (λ (t : List ℕ). ListsConnections names slots file t second) (sym same) also)) one two is there

  given_agree : (a b : RunPlan) → AreOnePlan a b → (one two : Result RunPlan CommandFault) → one ≡ Ok a → two ≡ Ok b → AreOne AreOnePlan HaveOneStatus one two
  given_agree a b same one two is there = rw (is, there) same

  -- what is behind plans that are one
  loads_agree : (load : Option (List ℕ)) (slots : ℕ) (a b : RunPlan) → AreOnePlan a b → (one two : Result RunPlan CommandFault) →
      (ReadsConnections (told_files tree) (told_files tree) load (interface_names a.ifaces) slots andthen (λ conns. gives a)) one →
      (ReadsConnections (told_files tree) (told_files tree) load (interface_names b.ifaces) slots andthen (λ conns. gives b)) two →
      AreOne AreOnePlan HaveOneStatus one two
  loads_agree load slots a b same one two is there =
      one_behind (λ (c d : List Saved). Unit {0}) AreOnePlan HaveOneStatus
      (ReadsConnections (told_files tree) (told_files tree) load (interface_names a.ifaces) slots)
      (ReadsConnections (told_files tree) (told_files tree) load (interface_names a.ifaces) slots) (λ conns. gives a) (λ conns. gives b)
      (connections_agree load (interface_names a.ifaces) slots) (λ _ _ _ _ _. given_agree a b same) one two is
      (subst (λ (ifaces : List Iface). (ReadsConnections (told_files tree) (told_files tree) load (interface_names ifaces) slots andthen (λ conns. gives b)) two) (sym same.ifaces) there)

  -- what a run is started from is one plan, or faults of one status
  pub one_start : OneRun → (names : RunNames) (load : Option (List ℕ)) (slots : ℕ) (one two : Result RunPlan CommandFault) →
      StartsRun (told_files tree) (told_files tree) names load slots one → StartsRun (told_files tree) (told_files tree) names load slots two →
      AreOne AreOnePlan HaveOneStatus one two
  one_start one_run names load slots =
      one_behind AreOnePlan AreOnePlan HaveOneStatus (PreparesRun (told_files tree) (told_files tree) names) (PreparesRun (told_files tree) (told_files tree) names)
      (λ (plan : RunPlan). ReadsConnections (told_files tree) (told_files tree) load (interface_names plan.ifaces) slots andthen (λ conns. gives plan))
      (λ (plan : RunPlan). ReadsConnections (told_files tree) (told_files tree) load (interface_names plan.ifaces) slots andthen (λ conns. gives plan))
      (λ one two is there. told_alike AreOnePlan one two (one_run tree names one two is there))
      (λ a b _ _ same. loads_agree load slots a b same)
