-- What a run is started from.
use Rattle.std.proofs.Common.{◌≡◌, ℕ, Option, Some, None, List, Ok, refl, sym, ap, subst}
use Rattle.npf_types.{specs.{declared.name.Name.Name, Stages.{◌andthen◌, gives, goes_on}}, proofs.StageLemmas.andthen_lasts}
use Rattle.npf_connections.specs.Pass.{Pass}
use Rattle.npf_engine.specs.{declared.outcome.Outcome.Outcome, Histories.FlowEntry}
use Rattle.npf_outside.specs.Files.{FilesMoment}
use Rattle.npf_traffic.specs.declared.{phase.Spread.Spread, packet.Packet.Packet}
use Rattle.npf_saved.specs.declared.saved.Saved.{Saved}
use Rattle.npf_types.specs.declared.limits.TheConstants.{MAX_SAVED_BYTES}
use Rattle.npf_ctl_input.specs.{File.{ReadsFile, told_files}, Laws.{FilesAreOfContents, IsOfContents}}
use Rattle.npf_ctl_prepare.specs.{Laws.RunsAreOfContents, Prepares.{PreparesRun, RunNames, RunPlan}}
use Rattle.npf_ctl_saved.specs.Loads.{BeginsLoaded, LacksNode, ListsConnections, ReadsConnections, interface_names}
use Rattle.npf_ctl.specs.{Run.PlaysRun, Starting.StartsRun}

-- connections that a run began with were read
loaded : (before after : FilesMoment) (load : Option (List ℕ)) (old begun : Pass FlowEntry) (read : RunPlan) → BeginsLoaded before after load (interface_names read.ifaces) old begun →
    (ReadsConnections before after load (interface_names read.ifaces) old.slots andthen (λ conns. gives read)) (Ok read)
loaded before after None old begun read begins = goes_on refl refl
loaded before after (Some file) old begun read begins = goes_on (goes_on begins.reads (ListsConnections.listed begins.loads.may)) refl

-- a run that was played was started, from what was read
pub started : (names : RunNames) (load : Option (List ℕ)) (workers : ℕ) (spread : Spread) (before after : FilesMoment) (old new : Pass FlowEntry) (plan : RunPlan)
    (outputs : List Packet) (outcomes : List Outcome) (plays : PlaysRun names load workers spread before after old new plan outputs outcomes) →
    StartsRun before after names load old.slots (Ok plays.read)
started names load workers spread before after old new plan outputs outcomes plays =
    goes_on plays.prepared (loaded before after load old plays.begun plays.read
    (subst (λ (n : List Name). BeginsLoaded before after load n old plays.begun) (ap (λ (p : RunPlan). interface_names p.ifaces) plays.whole.same) plays.begins))

-- and so is one whose connections the table had no node for
pub started_without : (names : RunNames) (load : Option (List ℕ)) (file : List ℕ) (before after : FilesMoment) (old new : Pass FlowEntry) (plan : RunPlan) →
    load ≡ Some file → PreparesRun before after names (Ok plan) → LacksNode before after file (interface_names plan.ifaces) old new →
    StartsRun before after names load old.slots (Ok plan)
started_without names load file before after old new plan named prepared lacks =
    goes_on prepared (subst (λ (given : Option (List ℕ)). (ReadsConnections before after given (interface_names plan.ifaces) old.slots andthen (λ conns. gives plan)) (Ok plan)) (sym named)
    (goes_on (goes_on lacks.reads (ListsConnections.listed lacks.lacks.1)) refl))

reads_of_contents : FilesAreOfContents → (load : Option (List ℕ)) (names : List Name) (slots : ℕ) → IsOfContents (λ before after. ReadsConnections before after load names slots)
reads_of_contents files None names slots tree before after result told well is = is
reads_of_contents files (Some file) names slots tree before after result told well is =
    andthen_lasts (ReadsFile before after file MAX_SAVED_BYTES) (ReadsFile (told_files tree) (told_files tree) file MAX_SAVED_BYTES)
    (ListsConnections names slots file) (ListsConnections names slots file)
    (λ read. files file MAX_SAVED_BYTES tree before after read told well) (λ text lists listed. listed) result is

-- where contents are told and no read fails, what a run is started from doesn't hang on the moments
pub starts_of_contents : RunsAreOfContents → FilesAreOfContents → (names : RunNames) (load : Option (List ℕ)) (slots : ℕ) →
    IsOfContents (λ before after. StartsRun before after names load slots)
starts_of_contents runs files names load slots tree before after result told well =
    andthen_lasts (PreparesRun before after names) (PreparesRun (told_files tree) (told_files tree) names)
    (λ (plan : RunPlan). ReadsConnections before after load (interface_names plan.ifaces) slots andthen (λ conns. gives plan))
    (λ (plan : RunPlan). ReadsConnections (told_files tree) (told_files tree) load (interface_names plan.ifaces) slots andthen (λ conns. gives plan))
    (λ prepared. runs names tree before after prepared told well)
    (λ plan. andthen_lasts (ReadsConnections before after load (interface_names plan.ifaces) slots) (ReadsConnections (told_files tree) (told_files tree) load (interface_names plan.ifaces) slots)
    (λ (conns : List Saved). gives plan) (λ (conns : List Saved). gives plan)
    (λ read. reads_of_contents files load (interface_names plan.ifaces) slots tree before after read told well) (λ conns gave is. is)) result
