-- What a worker does with its packets.
use Rattle.std.specs.Prelude.{◌≡◌, ◌≤◌, ◌+◌, true, false, List, [], ◌∷◌}
use Rattle.npf_connections.specs.Pass.{Pass, IsPass}
use Rattle.npf_connections.specs.Stay.{IsLater}
use Rattle.npf_flow.specs.Flows.{flow_law}
use Rattle.npf_model.specs.Configuration.{Configuration}
use Rattle.npf_publish.specs.declared.conf_reader.ConfReader.{ConfReader}
use Rattle.npf_engine.specs.Handles.{Handles}
use Rattle.npf_engine.specs.Histories.{FlowEntry}
use Rattle.npf_engine.specs.Outcome.{passes, sent_of, lacks_node}
use Rattle.npf_runner.specs.Job.{Handled, Job, job_arrival}

-- a pass that rests as before at a later moment, and was joined with none
pub record IsRested (old new : Pass FlowEntry) : Type 0 where
  pub later : IsLater old new
  pub joined : new.joined ≡ old.joined
  pub legal : IsPass flow_law new

-- a packet was handled, and left but for its bytes
pub record IsHandled (configs : List Configuration) (old new : Pass FlowEntry) (reader next : ConfReader) (job : Job) (done : Handled) : Type 0 where
  pub handles : Handles configs old new reader next (job_arrival job) done.outcome (sent_of done.outcome done.packet.bytes)
  pub rested : IsRested old new
  pub kept : passes done.outcome ≡ false → done.packet.bytes ≡ job.packet.bytes
  pub same : done.packet ≡ record job.packet { bytes = done.packet.bytes }
  pub sweep : lacks_node done.outcome ≡ true → old.sweeps + 1 ≤ new.sweeps

-- packets were handled one after the other, each from where the one before left the pass and the reader
abbrev pub WorksThrough : List Configuration → Pass FlowEntry → ConfReader → List Job → Pass FlowEntry → ConfReader → List Handled → Type 0
WorksThrough configs old reader [] new next [] = (old ≡ new) × (reader ≡ next)
WorksThrough configs old reader (job ∷ jobs) new next (done ∷ dones) =
    (mid : Pass FlowEntry) × (between : ConfReader) × IsHandled configs old mid reader between job done × WorksThrough configs mid between jobs new next dones
WorksThrough configs old reader [] new next (done ∷ dones) = ⊥
WorksThrough configs old reader (job ∷ jobs) new next [] = ⊥
