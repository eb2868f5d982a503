use Rattle.std.proofs.Common.{◌≡◌, ◌≤◌, ◌+◌, drop}
use Rattle.npf_connections.specs.Stay.{IsOut}
use Rattle.npf_flow.specs.Flows.{flow_law}
use Rattle.npf_publish.specs.Publisher.{published_number, publisher_range}
use Rattle.npf_runner.specs.{Commands.Runs, Works.IsRested}
use Rattle.npf_traffic.specs.Phases.{published_by}
use Rattle.npf_runner.proofs.control.control.Given as goal

abbrev pub invariant-loop-command : goal.invariant-loop-command
invariant-loop-command g l =
    IsOut flow_law (g.C.Connections.fits l.conns) g.C.Connections.view l.pass
    × IsRested (g.C.Connections.view l.initial.pass) (g.C.Connections.view l.pass)
    × (published_number l.publisher + published_by (drop l.command-index l.commands) ≤ (publisher_range l.publisher).last)
    × (published_number l.publisher + published_by (drop l.command-index l.commands) ≡ published_number l.initial.publisher + published_by l.commands)
    × ((new : _) → Runs (drop l.command-index l.commands) (g.C.Connections.view l.pass) new → Runs l.commands (g.C.Connections.view l.initial.pass) new)
