-- One expiry as of the last of several multiples of a period, in the place of one as of each.
use Rattle.std.specs.Prelude.{◌↔◌, ◌≤◌, ◌<◌, ◌*◌, ℕ, List}
use Rattle.npf_core.specs.declared.conn_id.ConnId.{ConnId}
use Rattle.npf_core.specs.declared.entry.Entry.{Entry}
use Rattle.npf_core.specs.declared.stage.Stage.{Stage}
use Rattle.npf_core.specs.Allowed.{IsDue}
use Rattle.npf_core.specs.History.{IsPrefix, state_of}
use Rattle.npf_core.specs.Machine.{IsLive, stage_of}
use Rattle.npf_flow.specs.declared.flow.Flow.{Flow}
use Rattle.npf_flow.specs.declared.step.FlowArg.{FlowArg}
use Rattle.npf_flow.specs.declared.step.FlowReply.{FlowReply}
use Rattle.npf_flow.specs.Flows.{flow_law}
use Rattle.npf_connections.specs.Expiring.{Expires, IsOneOf}
use Rattle.npf_connections.specs.Pass.{Pass}
use Rattle.npf_ctl_aging.specs.Aging.{last_tick, period}

-- a connection at this stage is due as of some multiple of the period that isn't after this time
abbrev pub IsDueAtMultiple : ℕ → ℕ → Stage Flow → Type 0
IsDueAtMultiple seconds time stage =
    (multiple : ℕ) × (multiple * period seconds ≤ time) × IsDue flow_law (multiple * period seconds) stage

-- it is due as of the last of them exactly where it is due as of one
abbrev pub LastMultipleIsEnough : Type 0
LastMultipleIsEnough =
    (seconds time : ℕ) (stage : Stage Flow) → 0 < seconds →
    IsDue flow_law (last_tick seconds time) stage ↔ IsDueAtMultiple seconds time stage

-- at each point between two histories the connection is due as of some multiple
abbrev pub IsDueThroughout : ℕ → ℕ → List (Entry Flow FlowArg FlowReply) → List (Entry Flow FlowArg FlowReply) → ConnId → Type 0
IsDueThroughout seconds time old new id =
    (point : List (Entry Flow FlowArg FlowReply)) → IsPrefix old point → IsPrefix point new →
    IsDueAtMultiple seconds time (stage_of (state_of flow_law point) id)

-- an expiry as of the last multiple kills each connection that was Live before it and stays due as of some multiple
abbrev pub LastMultipleKillsAll : Type 0
LastMultipleKillsAll =
    (seconds time count : ℕ) (old : Pass (Entry Flow FlowArg FlowReply)) (new : List (Entry Flow FlowArg FlowReply)) → 0 < seconds →
    (expires : Expires flow_law old new (last_tick seconds time) count) (id : ConnId) →
    IsLive (stage_of (state_of flow_law old.history) id) → IsDueThroughout seconds time old.history new id → IsOneOf expires.killed id
