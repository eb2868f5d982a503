-- What a procedure of npf.conf(5) does to a packet: all that it says, but for its name.
use Rattle.std.specs.Prelude.{false, Option, Some, None, slice_get, option_and_then}
use Rattle.npf_types.specs.declared.action.Action.{Action}
use Rattle.npf_model.specs.declared.model.Model.{Model}
use Rattle.npf_model.specs.declared.procedure.Procedure.{Procedure}
use Rattle.npf_model.specs.declared.rule.Rule.{Rule}

abbrev pub procedure_action : Procedure → Action
procedure_action procedure =
    record { min_ttl = procedure.min_ttl; max_mss = procedure.max_mss; no_df = procedure.no_df; log = procedure.log }

-- no procedure: nothing is normalised or logged
abbrev pub no_action : Action
no_action = record { min_ttl = None; max_mss = None; no_df = false; log = None }

abbrev pub action_by : Option Procedure → Action
action_by None = no_action
action_by (Some procedure) = procedure_action procedure

-- a rule's action is that of its procedure, and empty without one
abbrev pub action_of : Model → Rule → Action
action_of model rule = action_by (option_and_then (slice_get model.procedures) rule.procedure)
