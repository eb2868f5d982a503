-- Workers and their lanes, in parts.
use Rattle.std.specs.Prelude.{◌≡◌, ℕ, ◌≤◌, ◌+◌, List, [], All, length, map, vec_capacity}
use Rattle.npf_runner_dealing.specs.Lanes.{queue_items}
use Rattle.npf_engine.specs.declared.outcome.Outcome.{Outcome}
use Rattle.npf_runner.specs.declared.crew.Queues.{Queues}
use Rattle.npf_runner.specs.declared.crew.Room.{Room}
use Rattle.npf_traffic.specs.declared.packet.Packet.{Packet}
use Rattle.npf_runner.specs.declared.worker.Lane.{Lane}
use Rattle.npf_runner.specs.declared.worker.Worker.{Worker}
use Rattle.npf_runner.specs.Job.{Handled, Job, IsJob, with_numbers}
use Rattle.npf_runner.specs.Numbers.{packet_numbers}
use Rattle.npf_runner.specs.Played.{handled, outcomes_of, outputs_of}

abbrev pub numbers_of_worker : Worker → List ℕ
numbers_of_worker worker = packet_numbers worker.numbers (length worker.packets.items)

abbrev pub packets_of_worker : Worker → List Packet
packets_of_worker worker = worker.packets.items

abbrev pub jobs_of : Worker → List Job
jobs_of worker = with_numbers (numbers_of_worker worker) worker.packets.items

-- each of the worker's packets has a number
pub record HasJobs (worker : Worker) : Type 0 where
  pub same_length : length (numbers_of_worker worker) ≡ length worker.packets.items
  pub each : All IsJob (jobs_of worker)

-- the worker has room for the outcomes of its packets
pub record IsEquipped (worker : Worker) : Type 0 where
  pub no_outcomes : worker.outcomes.items ≡ []
  pub for_outcomes : length worker.packets.items ≤ vec_capacity worker.outcomes

abbrev pub worker_of_lane : {P : Type 0} → Lane P → Worker
worker_of_lane lane = lane.worker

abbrev pub pass_of_lane : {P : Type 0} → Lane P → P
pass_of_lane lane = lane.pass

abbrev pub jobs_of_lane : {P : Type 0} → Lane P → List Job
jobs_of_lane lane = jobs_of lane.worker

abbrev pub outcomes_of_lane : {P : Type 0} → Lane P → List Outcome
outcomes_of_lane lane = lane.worker.outcomes.items

abbrev pub packets_of_lane : {P : Type 0} → Lane P → List Packet
packets_of_lane lane = lane.worker.packets.items

abbrev pub done_of_lane : {P : Type 0} → Lane P → List Handled
done_of_lane lane = handled (outcomes_of_lane lane) (packets_of_lane lane)

-- the outcomes and the packets of what each worker has done
pub record AreQueuesOf (dones : List (List Handled)) (queues : Queues) : Type 0 where
  pub outcomes : map queue_items queues.outcomes.items ≡ map outcomes_of dones
  pub packets : map queue_items queues.packets.items ≡ map outputs_of dones

-- there is room for so many workers, and for one pass more
pub record HasRoomFor {P : Type 0} (workers : ℕ) (room : Room P) : Type 0 where
  pub lanes : room.lanes.items ≡ []
  pub others : room.others.items ≡ []
  pub no_outcomes : room.queues.outcomes.items ≡ []
  pub no_packets : room.queues.packets.items ≡ []
  pub for_lanes : workers ≤ vec_capacity room.lanes
  pub for_others : workers + 1 ≤ vec_capacity room.others
  pub for_outcomes : workers ≤ vec_capacity room.queues.outcomes
  pub for_packets : workers ≤ vec_capacity room.queues.packets
