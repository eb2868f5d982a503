use Rattle.std.proofs.Common.{◌<◌, ◌∙◌, length, get_or, sym, arith}
use Rattle.npf_pieces.{specs.declared.datagram_at.DatagramAt.DatagramAt, proofs.DatagramsLemmas.{len_within, put_step}}
use Rattle.npf_pieces.proofs.datagram_at.put_at.Goals as goal

pub loop-extent-preserved : goal.loop-extent-preserved
loop-extent-preserved c =
    let i = c.loop-extent.extent-index in
    let none : DatagramAt = record { place = 0; len = 0 } in
    let extents = c.args.extents.now in
    let rest = c.loop-extent.rest.now in
    let split = c.split_at_mut-own.ensures in
    let here : (get_or extents i none).place < length c.loop-extent.packets = omega (arith, c.requires.here i none c.loop-extent-test.true, c.loop-extent.auto.packets) in
    record {
      sized = omega (arith, len_within extents i (length rest) none c.loop-extent-test.true c.loop-extent.invariant.sized, split.back_len);
      puts = rw c.of-packet.ensures (rw split.front (rw split.back (
          sym (put_step extents i rest c.loop-extent.packets none c.index-packets-extent.result c.loop-extent-test.true here) ∙ c.loop-extent.invariant.puts
          )));
    }
