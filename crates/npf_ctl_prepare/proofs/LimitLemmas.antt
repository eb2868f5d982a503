-- What is counted of a script, one kind after another.
use Rattle.std.proofs.Common.{◌≡◌, ℕ, Ok, Err, List, length, ap, subst, ◌∙◌}
use Rattle.npf_types.specs.Stages.{stops, goes_on}
use Rattle.npf_model.specs.declared.iface.Iface.{Iface}
use Rattle.npf_ctl_script.specs.declared.script.ScriptLine.{ScriptLine}
use Rattle.npf_ctl_schedule.specs.Schedule.{captures_in, changes_in, phases_in, run_interfaces}
use Rattle.npf_ctl_messages.specs.declared.fault.{CommandFault.CommandFault, Quantity.TheVariants.{Captures, Changes, Interfaces, Phases}}
use Rattle.npf_ctl_input.specs.Unless.{IfTold}
use Rattle.npf_ctl_prepare.{specs.Prepares.{HasFew, KeepsScriptLimits}, proofs.StageLemmas.told_unless}

module _ (given : List Iface) (lines : List ScriptLine) where
  -- the script has too many of something
  abbrev pub IsOver : CommandFault → Type 0
  IsOver fault = IfTold (λ other. KeepsScriptLimits given lines (Err other)) fault

  over : (fault : CommandFault) → KeepsScriptLimits given lines (Err fault) → IsOver fault
  over fault is = told_unless (λ other. KeepsScriptLimits given lines (Err other)) fault (λ real. is)

  module _ (captures : ℕ) (are : captures ≡ captures_in lines) where
    pub captures_over : (fault : CommandFault) → HasFew Captures captures (Err fault) → IsOver fault
    captures_over fault is = over fault (stops (subst (λ n. HasFew Captures n (Err fault)) are is))

    module _ (few : HasFew Captures captures (Ok tt)) (phases : ℕ) (phases_are : phases ≡ phases_in lines) where
      few_captures : HasFew Captures (captures_in lines) (Ok tt)
      few_captures = subst (λ n. HasFew Captures n (Ok tt)) are few

      pub phases_over : (fault : CommandFault) → HasFew Phases phases (Err fault) → IsOver fault
      phases_over fault is = over fault (goes_on few_captures (stops (subst (λ n. HasFew Phases n (Err fault)) phases_are is)))

      module _ (phases_few : HasFew Phases phases (Ok tt)) (changes : ℕ) (changes_are : changes ≡ changes_in lines) where
        few_phases : HasFew Phases (phases_in lines) (Ok tt)
        few_phases = subst (λ n. HasFew Phases n (Ok tt)) phases_are phases_few

        pub changes_over : (fault : CommandFault) → HasFew Changes changes (Err fault) → IsOver fault
        changes_over fault is = over fault (goes_on few_captures (goes_on few_phases (stops (subst (λ n. HasFew Changes n (Err fault)) changes_are is))))

        module _ (changes_few : HasFew Changes changes (Ok tt)) (ifaces : List Iface) (ifaces_are : ifaces ≡ run_interfaces given lines) (count : ℕ) (counted : count ≡ length ifaces) where
          few_changes : HasFew Changes (changes_in lines) (Ok tt)
          few_changes = subst (λ n. HasFew Changes n (Ok tt)) changes_are changes_few

          counted_ifaces : count ≡ length (run_interfaces given lines)
          counted_ifaces = counted ∙ ap length ifaces_are

          pub interfaces_over : (fault : CommandFault) → HasFew Interfaces count (Err fault) → IsOver fault
          interfaces_over fault is = over fault
              (goes_on few_captures (goes_on few_phases (goes_on few_changes (stops (subst (λ n. HasFew Interfaces n (Err fault)) counted_ifaces is)))))

          pub kept : HasFew Interfaces count (Ok tt) → KeepsScriptLimits given lines (Ok ifaces)
          kept is =
              goes_on few_captures (goes_on few_phases (goes_on few_changes (goes_on (subst (λ n. HasFew Interfaces n (Ok tt)) counted_ifaces is) (ap Ok ifaces_are))))
