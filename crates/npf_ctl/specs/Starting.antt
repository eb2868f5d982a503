-- What a run is started from.
use Rattle.std.specs.Prelude.{ℕ, Option, List}
use Rattle.npf_types.specs.Stages.{Stage, ◌andthen◌, gives}
use Rattle.npf_outside.specs.Files.{FilesMoment}
use Rattle.npf_ctl_messages.specs.declared.fault.CommandFault.{CommandFault}
use Rattle.npf_ctl_prepare.specs.Prepares.{PreparesRun, RunNames, RunPlan}
use Rattle.npf_ctl_saved.specs.Loads.{ReadsConnections, interface_names}

-- What is prepared of a run's files and then, where the words name one, read of its file of saved connections for a table of so many slots. The
-- first fault ends it.
abbrev pub StartsRun : FilesMoment → FilesMoment → RunNames → Option (List ℕ) → ℕ → Stage RunPlan CommandFault
StartsRun before after names load slots =
    PreparesRun before after names andthen λ plan.
    ReadsConnections before after load (interface_names plan.ifaces) slots andthen λ conns. gives plan
