use Rattle.std.proofs.Common.{All}
use Rattle.npf_pieces.specs.{Datagram.StandsAmong, Overlap.IsTaken}
use Rattle.npf_pieces_tests.proofs.joining.pieces_among.Given as goal

abbrev pub invariant-loop-place : goal.invariant-loop-place
invariant-loop-place l = record {
  taken : All IsTaken l.arrived.items;
  stand : All (StandsAmong l.packets) l.arrived.items;
}
