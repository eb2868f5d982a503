use Rattle.std.proofs.Common.{◌≡◌, map, length}
use Rattle.npf_seats.specs.Sums.{numbers_below}
use Rattle.npf_cells_rule.specs.Readers.{reader_in_turn}
use Rattle.npf_cells.proofs.cells.all_readers.Given as goal

abbrev pub invariant-loop-position : goal.invariant-loop-position
invariant-loop-position l = (l.readers.items ≡ map reader_in_turn (numbers_below l.position)) × (length l.readers.items ≡ l.position)
