use Rattle.std.proofs.Common.{◌≡◌, ℕ, ◌<◌, ◌&&◌, ◌||◌, nat_le, nat_lt}
use Rattle.npf_pieces.specs.Overlap.{KeepsTotals, is_filled}
use Rattle.npf_pieces.proofs.overlap.OpenSet.fill.Given as goal

abbrev pub invariant-loop-unit : goal.invariant-loop-unit
invariant-loop-unit l = KeepsTotals l.initial.self l.self
    × ((k : ℕ) → k < 8192 → is_filled l.self k ≡ (is_filled l.initial.self k || (nat_le l.from k && nat_lt k l.unit)))
