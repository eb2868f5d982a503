-- Workers with their passes, before and after their packets.
use Rattle.std.specs.Prelude.{◌≡◌, ℕ, ◌≤◌, ◌<◌, List, length}
use Rattle.npf_connections.specs.Pass.{Pass, IsPass}
use Rattle.npf_connections.specs.Stay.{IsOut}
use Rattle.npf_flow.specs.Flows.{flow_law}
use Rattle.npf_model.specs.Configuration.{Configuration}
use Rattle.npf_publish.specs.ConfReader.{reader_range}
use Rattle.npf_engine.specs.Histories.{FlowEntry}
use Rattle.npf_runner.specs.declared.worker.Lane.{Lane}
use Rattle.npf_runner.specs.Crew.{HasJobs, IsEquipped, jobs_of_lane, done_of_lane, outcomes_of_lane, packets_of_lane}
use Rattle.npf_runner.specs.Works.{WorksThrough}

-- the worker can begin, where there are so many configurations: its pass is outside, and it has room
pub record CanWork {P : Type 0} (fits : P → Type 0) (view : P → Pass FlowEntry) (configs : ℕ) (lane : Lane P) : Type 0 where
  pub out : IsOut flow_law fits view lane.pass
  pub place : 1 ≤ (view lane.pass).places
  pub jobs : HasJobs lane.worker
  pub numbers : (reader_range lane.worker.reader).last < configs
  pub ready : IsEquipped lane.worker

-- the worker has handled all its packets, and has an outcome for each that it gives back
pub record HasWorked {P : Type 0} (view : P → Pass FlowEntry) (configs : List Configuration) (old new : Lane P) : Type 0 where
  pub legal : IsPass flow_law (view new.pass)
  pub works : WorksThrough configs (view old.pass) old.worker.reader (jobs_of_lane old) (view new.pass) new.worker.reader (done_of_lane new)
  pub same_length : length (outcomes_of_lane new) ≡ length (packets_of_lane new)
