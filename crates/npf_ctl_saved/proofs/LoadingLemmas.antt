-- What loading the text of a file comes to.
use Rattle.std.proofs.Common.{◌≡◌, ℕ, List, Some, Ok, Err, refl}
use Rattle.npf_types.specs.{declared.{name.Name.Name, limits.TheConstants.MAX_SAVED_BYTES}, Stages.{stops, goes_on}}
use Rattle.npf_outside.specs.Files.{FilesMoment}
use Rattle.npf_saved_file.specs.declared.fault.SavedFault.{SavedFault, TheVariants.{BadSaved, OtherInterfaces, TooManySaved, SavedNoNode, NoMemory}}
use Rattle.npf_connsave.specs.Loads.{RefusesLoaded, View}
use Rattle.npf_ctl_messages.specs.declared.fault.CommandFault.{CommandFault}
use Rattle.npf_ctl_input.{specs.{File.ReadsFile, Unless.IfTold}, proofs.UnlessLemmas.told_lasts}
use Rattle.npf_ctl_saved.specs.Loads.{FailsLoad, ListsConnections, refused, no_node, told_saved}

module _ (before after : FilesMoment) (file : List ℕ) (names : List Name) (old new : View) where
  -- a file that isn't read leaves the table as it was
  pub unread : (fault : CommandFault) → new ≡ old → IfTold (λ why. ReadsFile before after file MAX_SAVED_BYTES (Err why)) fault →
      IfTold (FailsLoad before after (Some file) names old new) fault
  unread fault same = told_lasts (λ why. ReadsFile before after file MAX_SAVED_BYTES (Err why)) (FailsLoad before after (Some file) names old new) (λ why is. refused (stops is) same) fault

  -- how each fault of loading its text is told
  pub unloaded : (text : List ℕ) → ReadsFile before after file MAX_SAVED_BYTES (Ok text) → (fault : SavedFault) → RefusesLoaded names text old new fault →
      IfTold (FailsLoad before after (Some file) names old new) (told_saved file fault)
  unloaded text reads (BadSaved line) why = refused (goes_on reads (ListsConnections.bad why.0)) why.1
  unloaded text reads (OtherInterfaces line) why = refused (goes_on reads (ListsConnections.other why.0)) why.1
  unloaded text reads (TooManySaved count) why = refused (goes_on reads (ListsConnections.many why.0)) why.1
  unloaded text reads SavedNoNode why = no_node refl (record { text = text; reads = reads; lacks = why })
  unloaded text reads NoMemory why = tt
