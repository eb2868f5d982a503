use Rattle.std.proofs.Common.{◌≡◌, ℕ, ◌<◌, ◌≤◌, false}
use Rattle.npf_pieces.specs.Overlap.{is_filled}
use Rattle.npf_pieces.proofs.overlap.OpenSet.has_unit.Given as goal

abbrev pub invariant-loop-unit : goal.invariant-loop-unit
invariant-loop-unit l = (k : ℕ) → l.from ≤ k → k < l.unit → is_filled l.self k ≡ false
