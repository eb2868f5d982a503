use Rattle.std.proofs.Common.{◌<◌, refl, get_or, length, arith}
use Rattle.npf_reass_whole.proofs.BadLemmas.{bad_done, bad_rest}
use Rattle.npf_reass_whole.proofs.whole.hold_bad.Goals as goal

pub loop-place-preserved : goal.loop-place-preserved
loop-place-preserved c =
    let old = c.args.packets.now in
    let cur = c.loop-place.packets in
    let place = c.loop-place.place in
    let p = c.index-packets-place.result in
    let new = c.hold_if_bad.new.packet in
    let inv = c.loop-place.invariant in
    let inside : place < length cur = omega (arith, c.loop-place-test.true, c.loop-place.auto.packets) in
    record {
      done = bad_done old cur place (get_or cur place p) new p inside refl c.hold_if_bad.ensures inv.rest inv.done;
      rest = bad_rest old cur place (get_or cur place p) new p inside refl c.hold_if_bad.ensures inv.rest;
    }
