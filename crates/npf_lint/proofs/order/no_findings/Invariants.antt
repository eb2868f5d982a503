use Rattle.std.proofs.Common.{◌≡◌, length}
use Rattle.npf_lint.proofs.order.no_findings.Given as goal

abbrev pub invariant-loop : goal.invariant-loop
invariant-loop l = length l.findings.items ≡ l.counter
