use Rattle.std.{proofs.Common.{◌≡◌, ℕ, ◌<◌, ◌≤◌}, specs.Prelude.slice_index_or}
use Rattle.npf_traffic.specs.declared.packet.Packet.{Packet}
use Rattle.npf_pieces.specs.{declared.piece.Seen.Seen, Piece.SeenAs}
use Rattle.npf_reass_whole.specs.Run.{HeldIfBad}
use Rattle.npf_reass_whole.proofs.whole.hold_bad.Given as goal

abbrev pub invariant-loop-place : goal.invariant-loop-place
invariant-loop-place l = record {
  done : (k : ℕ) (d : Packet) (seen : Seen) → k < l.place → SeenAs (slice_index_or l.initial.packets k d) seen
      → HeldIfBad (slice_index_or l.initial.packets k d) (slice_index_or l.packets k d) seen;
  rest : (k : ℕ) (d : Packet) → l.place ≤ k → slice_index_or l.packets k d ≡ slice_index_or l.initial.packets k d;
}
