use Rattle.std.{proofs.Common.take, specs.Prelude.All}
use Rattle.npf_pieces.specs.{declared.piece.Seen.Seen, Piece.SeenAs}
use Rattle.npf_reass_run.proofs.gather.has_fragment.Given as goal

abbrev pub invariant-loop-packet : goal.invariant-loop-packet
invariant-loop-packet l = All (λ packet. SeenAs packet Seen.NoFragment) (take l.packet-index l.packets)
