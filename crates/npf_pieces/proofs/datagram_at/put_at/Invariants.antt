use Rattle.std.{proofs.Common.{◌≡◌, length, drop}, specs.Prelude.sum_by}
use Rattle.npf_pieces.specs.DatagramAt.{cut_at, with_datagrams}
use Rattle.npf_pieces.proofs.datagram_at.put_at.Given as goal

abbrev pub invariant-loop-extent : goal.invariant-loop-extent
invariant-loop-extent l = record {
  sized : sum_by (λ d. d.len) (drop l.extent-index l.extents) ≡ length l.rest;
  puts : with_datagrams (cut_at (drop l.extent-index l.extents) l.rest) l.packets ≡ with_datagrams (cut_at l.extents l.fn.bytes) l.initial.packets;
}
