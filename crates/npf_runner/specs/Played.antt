-- What became of packets, taken apart and put together.
use Rattle.std.specs.Prelude.{List, [], ◌∷◌, map}
use Rattle.npf_engine.specs.declared.outcome.Outcome.{Outcome}
use Rattle.npf_traffic.specs.declared.packet.Packet.{Packet}
use Rattle.npf_runner.specs.Job.{Handled}

abbrev pub outcomes_of : List Handled → List Outcome
outcomes_of = map (λ (done : Handled). done.outcome)

abbrev pub outputs_of : List Handled → List Packet
outputs_of = map (λ (done : Handled). done.packet)

abbrev pub handled : List Outcome → List Packet → List Handled
handled (outcome ∷ outcomes) (packet ∷ packets) = record { outcome = outcome; packet = packet } ∷ handled outcomes packets
handled _ _ = []
