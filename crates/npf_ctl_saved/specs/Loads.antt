-- The connections that a run begins with.
use Rattle.std.specs.Prelude.{◌≡◌, ℕ, Option, Some, None, Result, Ok, Err, List, [], map}
use Rattle.npf_types.specs.declared.name.Name.{Name}
use Rattle.npf_types.specs.Stages.{Stage, ◌andthen◌, gives}
use Rattle.npf_model.specs.declared.iface.Iface.{Iface}
use Rattle.npf_outside.specs.Files.{FilesMoment}
use Rattle.npf_saved.specs.declared.saved.Saved.{Saved}
use Rattle.npf_saved_file.specs.declared.fault.SavedFault.{SavedFault}
use Rattle.npf_saved_file.specs.declared.fault.SavedFault.TheVariants as Load
use Rattle.npf_types.specs.declared.limits.TheConstants.{MAX_SAVED_BYTES}
use Rattle.npf_saved_file.specs.Refusal.{MayLoad, RefusesSaved}
use Rattle.npf_connsave.specs.Loads.{LoadsSaved, RefusesLoaded, View}
use Rattle.npf_ctl_messages.specs.declared.fault.CommandFault.{CommandFault}
use Rattle.npf_ctl_messages.specs.declared.fault.CommandFault.TheVariants.{NoMemory, Saved as Refuses}
use Rattle.npf_ctl_messages.specs.declared.fault.SavedRefusal.TheVariants.{BadSaved, OtherInterfaces, TooManySaved, SavedNoNode}
use Rattle.npf_ctl_input.specs.File.{ReadsFile}

abbrev pub interface_names : List Iface → List Name
interface_names ifaces = map (λ iface. iface.name) ifaces

-- how a fault of loading this file is told
abbrev pub told_saved : List ℕ → SavedFault → CommandFault
told_saved file (Load.BadSaved line) = Refuses file (BadSaved line)
told_saved file (Load.OtherInterfaces line) = Refuses file (OtherInterfaces line)
told_saved file (Load.TooManySaved count) = Refuses file (TooManySaved count)
told_saved file Load.SavedNoNode = Refuses file SavedNoNode
told_saved file Load.NoMemory = NoMemory

-- the connections that the text of this file lists, for a run of these interfaces in a table of so many slots; or why it is refused
pub data ListsConnections (names : List Name) (slots : ℕ) (file text : List ℕ) : Result (List Saved) CommandFault → Type 0 where
  listed : {conns : List Saved} → MayLoad text names slots conns → ListsConnections names slots file text (Ok conns)
  bad : {line : ℕ} → RefusesSaved text names slots (Load.BadSaved line) → ListsConnections names slots file text (Err (Refuses file (BadSaved line)))
  other : {line : ℕ} → RefusesSaved text names slots (Load.OtherInterfaces line) →
      ListsConnections names slots file text (Err (Refuses file (OtherInterfaces line)))
  many : {count : ℕ} → RefusesSaved text names slots (Load.TooManySaved count) →
      ListsConnections names slots file text (Err (Refuses file (TooManySaved count)))

module _ (before after : FilesMoment) where
  -- the connections that the file lists, if there is one
  abbrev pub ReadsConnections : Option (List ℕ) → List Name → ℕ → Stage (List Saved) CommandFault
  ReadsConnections None names slots = gives []
  ReadsConnections (Some file) names slots = ReadsFile before after file MAX_SAVED_BYTES andthen ListsConnections names slots file

  -- the connections of the file were put into the new table, and nothing else
  pub record LoadsConnections (file : List ℕ) (names : List Name) (old new : View) : Type 0 where
    pub text : List ℕ
    pub reads : ReadsFile before after file MAX_SAVED_BYTES (Ok text)
    pub loads : LoadsSaved names text old new

  -- the table begins with the connections of the file, or is as it was where there is none
  abbrev pub BeginsLoaded : Option (List ℕ) → List Name → View → View → Type 0
  BeginsLoaded None names old new = new ≡ old
  BeginsLoaded (Some file) names old new = LoadsConnections file names old new

  -- the text of this file may be loaded, but the table had no node for a key of one of its connections
  pub record LacksNode (file : List ℕ) (names : List Name) (old new : View) : Type 0 where
    pub text : List ℕ
    pub reads : ReadsFile before after file MAX_SAVED_BYTES (Ok text)
    pub lacks : RefusesLoaded names text old new Load.SavedNoNode

  -- why the connections of the file aren't loaded: the table is asked only where the text is taken
  pub data FailsLoad (given : Option (List ℕ)) (names : List Name) (old new : View) : CommandFault → Type 0 where
    refused : {fault : CommandFault} → ReadsConnections given names old.slots (Err fault) → new ≡ old → FailsLoad given names old new fault
    no_node : {file : List ℕ} → given ≡ Some file → LacksNode file names old new → FailsLoad given names old new (Refuses file SavedNoNode)
