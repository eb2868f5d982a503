-- Connections that are saved.
use Rattle.std.proofs.Common.{◌≡◌, ℕ, List, Option, Some, Ok, Err, Result, IfErr, OnOk}
use Rattle.npf_types.specs.declared.name.Name.{Name}
use Rattle.npf_core.specs.History.{state_of}
use Rattle.npf_connections.specs.Pass.{Pass}
use Rattle.npf_connsave.specs.Saves.{IsSavedText}
use Rattle.npf_engine.specs.Histories.{FlowEntry}
use Rattle.npf_flow.specs.Flows.{flow_law}
use Rattle.npf_outside.specs.Files.{FilesMoment, Has}
use Rattle.npf_ctl_messages.specs.declared.fault.CommandFault.{CommandFault}
use Rattle.npf_ctl_output.specs.File.{IsUnwritten}
use Rattle.npf_ctl.specs.{Ends.FailsSave, Run.IsSavedTo}

-- where the file has the connections' text, they are saved to it
pub saved_to : (files : FilesMoment) (pass : Pass FlowEntry) (names : List Name) (name text : List ℕ) → IsSavedText (state_of flow_law pass.history) names text →
    (result : Result (Unit {0}) CommandFault) → OnOk result (Has files.contents name text) → OnOk result (IsSavedTo files pass names name)
saved_to files pass names name text saved (Ok u) holds = record { text = text; saved = saved; holds = holds }
saved_to files pass names name text saved (Err fault) holds = tt

module _ (given : Option (List ℕ)) (name : List ℕ) (is : given ≡ Some name) where
  pub unsaved_named : (first last : FilesMoment) (result : Result (Unit {0}) CommandFault) → IfErr result (IsUnwritten first last name) → IfErr result (FailsSave given first last)
  unsaved_named first last (Ok u) fails = tt
  unsaved_named first last (Err fault) fails = record { name = name; is = is; unwritten = fails }
