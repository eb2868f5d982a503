use Rattle.std.proofs.Common.{◌≡◌, ap, length, arith}
use Rattle.npf_pieces.specs.Datagrams.{laid_out}
use Rattle.npf_reass_whole.proofs.PutLemmas.{can_lay_out, datagrams_here, has_places, puts_short, puts_whole, whole_items}
use Rattle.npf_reass_whole.proofs.whole.put_together.Goals as goal

pub lay_out-requires : goal.lay_out-requires
lay_out-requires c =
    rw c.as_slice.ensures.value (can_lay_out c.args.packets.items c.requires.short c.args.classes.now c.requires.decided c.complete_set_is_whole.ensures)

pub put_all-requires : goal.put_all-requires
put_all-requires c = record {
  short = rw c.as_mut_slice.ensures.value c.requires.short;
  places = rw c.as_mut_slice.ensures.value (has_places c.args.packets.items c.requires.short c.args.classes.now c.requires.decided);
  here = rw c.as_mut_slice.ensures.value (datagrams_here c.args.packets.items c.requires.short c.args.classes.now c.requires.decided c.complete_set_is_whole.ensures _
      (rw c.as_slice.ensures.value at c.in_ok-datagrams.ensures));
}

pub returns : goal.returns
returns c =
    let old = c.args.packets.items in
    let new = c.put_all.new.packets in
    let long : length new ≡ c.args.packets.len = omega (arith, c.put_all.auto.packets, ap length c.as_mut_slice.ensures.value, c.args.packets.ok) in
    let puts = rw c.as_mut_slice.ensures.value at c.put_all.ensures in
    record {
      short = rw (whole_items c.args.packets.len new old long (omega (arith, c.args.packets.ok))) (
          puts_short old c.requires.short c.args.classes.now c.requires.decided c.complete_set_is_whole.ensures (laid_out c.in_ok-datagrams.datagrams)
          (rw c.as_slice.ensures.value at c.in_ok-datagrams.ensures) new puts
          );
      whole = rw (whole_items c.args.packets.len new old long (omega (arith, c.args.packets.ok))) (
          puts_whole old c.requires.short c.args.classes.now c.requires.decided c.complete_set_is_whole.ensures (laid_out c.in_ok-datagrams.datagrams)
          (rw c.as_slice.ensures.value at c.in_ok-datagrams.ensures) new puts
          );
    }
