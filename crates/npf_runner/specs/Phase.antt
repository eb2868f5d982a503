-- What a phase did, in terms of its passes.
use Rattle.std.specs.Prelude.{◌≡◌, ◌⊎◌, ℕ, ◌+◌, ◌++◌, List, [], ◌∷◌, All, map, take, drop}
use Rattle.std.specs.List.{AllZip}
use Rattle.npf_core.specs.History.{state_of}
use Rattle.npf_connections.specs.Collecting.{HasNoDead, IsWorn}
use Rattle.npf_connections.specs.Pass.{Pass, IsPass}
use Rattle.npf_connections.specs.Stay.{IsLater}
use Rattle.npf_flow.specs.Flows.{flow_law}
use Rattle.npf_model.specs.Configuration.{Configuration}
use Rattle.npf_runner_passes.specs.Whole.{IsWhole}
use Rattle.npf_runner_passes.specs.Parts.{IsGiven}
use Rattle.npf_publish.specs.ConfReader.{IsNewReader}
use Rattle.npf_runner_dealing.specs.Lanes.{IsDealt}
use Rattle.npf_engine.specs.Histories.{FlowEntry}
use Rattle.npf_traffic.specs.declared.packet.Packet.{Packet}
use Rattle.npf_traffic.specs.declared.phase.Command.{Command}
use Rattle.npf_traffic.specs.declared.phase.Phase.{Phase}
use Rattle.npf_traffic.specs.declared.phase.Spread.{Spread}
use Rattle.npf_runner.specs.declared.worker.Lane.{Lane}
use Rattle.npf_runner.specs.declared.worker.Worker.{Worker}
use Rattle.npf_runner.specs.Commands.{Collects, Runs}
use Rattle.npf_runner.specs.Crew.{jobs_of, worker_of_lane, done_of_lane}
use Rattle.npf_runner.specs.Spread.{IsWorkerOf}
use Rattle.npf_runner.specs.Job.{Handled, Job, job_arrival, numbered_from}
use Rattle.npf_runner.specs.Lanes.{HasWorked}
use Rattle.npf_traffic.specs.Phases.{published_by}
use Rattle.npf_runner.specs.Works.{IsRested}

-- the pass is as it was, or shows no Dead connection, unless it is worn
abbrev pub LeavesNoDead : Pass FlowEntry → Pass FlowEntry → Type 0
LeavesNoDead old new = (new ≡ old) ⊎ (¬ IsWorn new → HasNoDead (state_of flow_law new.history))

-- Each worker handled its packets with a pass of its own, beside the control task's commands. The pass was split for them, took all in
-- again, and collected.
pub record RunsCrew {P : Type 0} (view : P → Pass FlowEntry) (configs : List Configuration) (old new : Pass FlowEntry) (commands : List Command) (crew : List Worker) (dones : List (List Handled)) : Type 0 where
  pub begun : List (Lane P)
  pub ended : List (Lane P)
  pub workers : map worker_of_lane begun ≡ crew
  pub done : map done_of_lane ended ≡ dones
  pub given : All (λ lane. IsGiven old (view lane.pass)) begun
  pub legal : All (λ lane. IsPass flow_law (view lane.pass)) begun
  pub worked : AllZip (HasWorked view configs) begun ended
  pub control : Pass FlowEntry
  pub controlled : Pass FlowEntry
  pub control_given : IsGiven old control
  pub rested : IsRested control controlled
  pub runs : Runs commands control controlled
  pub whole : Pass FlowEntry
  pub is_whole : IsWhole old whole (map (λ lane. view lane.pass) ended ++ controlled ∷ [])
  pub collects : Collects whole new

-- The packets were dealt to workers by the spread. Each worker had a reader of its own, and what became of its packets was gathered
-- again.
pub record RunsPhase {P : Type 0} (view : P → Pass FlowEntry) (configs : List Configuration) (workers : ℕ) (spread : Spread) (old new : Pass FlowEntry) (last : ℕ) (commands : List Command) (jobs : List Job) (dones : List Handled) : Type 0 where
  pub order : List ℕ
  pub spreads : AllZip (λ job worker. IsWorkerOf spread workers (job_arrival job) worker) jobs order
  pub crew : List Worker
  pub readers : All (λ worker. IsNewReader (record { first = last; last = last + published_by commands }) worker.reader) crew
  pub dealt : IsDealt order jobs (map jobs_of crew)
  pub lanes : List (List Handled)
  pub ran : RunsCrew view configs old new commands crew lanes
  pub gathered : IsDealt order dones lanes

-- The phases ran one after the other, each from where the one before left the pass, with the packets that followed.
abbrev pub RunsPhases : {P : Type 0} → (P → Pass FlowEntry) → List Configuration → ℕ → Spread → Pass FlowEntry → Pass FlowEntry → ℕ → ℕ → List Phase → List Packet → List Handled → Type 0
RunsPhases view configs workers spread old new first last [] packets dones = (old ≡ new) × (packets ≡ []) × (dones ≡ [])
RunsPhases view configs workers spread old new first last (phase ∷ phases) packets dones =
    (mid : Pass FlowEntry) × (here : List Handled) × (later : List Handled) × (dones ≡ here ++ later) × IsLater old mid × IsPass flow_law mid
    × RunsPhase view configs workers spread old mid last phase.commands (numbered_from first (take phase.packets packets)) here
    × RunsPhases view configs workers spread mid new (first + phase.packets) (last + published_by phase.commands) phases (drop phase.packets packets) later
