use Rattle.std.proofs.Common.{◌≡◌, ◌≤◌, ◌+◌, drop}
use Rattle.npf_traffic.specs.Phases.{published_by}
use Rattle.npf_runner.proofs.phase.count_published.Given as goal

abbrev pub invariant-loop-command : goal.invariant-loop-command
invariant-loop-command l = (l.count + published_by (drop l.command-index l.commands) ≡ published_by l.commands) × (l.count ≤ l.command-index)
