use Rattle.std.proofs.Common.{◌≡◌}
use Rattle.npf_why_map.{specs.Place.reason_at, proofs.PlaceLemmas.reasons_from}
use Rattle.npf_why_map.proofs.place.reason_at.Given as goal

abbrev pub invariant-loop-place : goal.invariant-loop-place
invariant-loop-place l = reason_at l.fn.at l.fn.tree l.fn.model ≡ reasons_from l.fn.at l.stmts l.place l.rest
