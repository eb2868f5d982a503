use Rattle.std.{proofs.Common.{◌≡◌, ◌==◌, ℕ, true, take}, specs.List.list_any}
use Rattle.npf_ruleset.specs.Row.{has_protocol}
use Rattle.npf_ruleset.proofs.protocol_set.ProtocolSet.of.Given as goal

abbrev pub invariant-loop-proto : goal.invariant-loop-proto
invariant-loop-proto l = (proto : ℕ) → list_any (λ listed. listed == proto) (take l.proto-index l.protos) ≡ true → has_protocol l.set proto ≡ true
