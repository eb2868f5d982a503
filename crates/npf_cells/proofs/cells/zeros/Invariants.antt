use Rattle.std.proofs.Common.{◌≡◌, ◌≤◌, ◌-◌, length, replicate}
use Rattle.npf_cells.proofs.cells.zeros.Given as goal

abbrev pub invariant-loop-block : goal.invariant-loop-block
invariant-loop-block l = (length l.words.items ≤ l.fn.count) × (l.words.items ≡ replicate (length l.words.items) 0)

abbrev pub decreases-loop-block : goal.decreases-loop-block
decreases-loop-block l = l.fn.count - length l.words.items
