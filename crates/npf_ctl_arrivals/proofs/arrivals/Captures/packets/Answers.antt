use Rattle.std.proofs.{Common.{sym, arith}, lemmas.List.Folds.length-flat_map-take}
use Rattle.npf_ctl_arrivals.{specs.Traces.packets_of_trace, proofs.PacketLemmas.length-packets_at}
use Rattle.npf_ctl_arrivals.proofs.arrivals.Captures.packets.Goals as goal

pub append_packets-requires-clause-room : goal.append_packets-requires-clause-room
append_packets-requires-clause-room c =
    let one = c.loop-trace-item.result in
    let value = c.as_mut_slice-trace-items.ensures.value in
    let fits = length-flat_map-take packets_of_trace c.args.self.now.traces.items c.loop-trace.trace-index one (rw value at c.loop-trace-test.true) in
    let fits_one = rw (sym (rw value at c.loop-trace-item.is)) at fits in
    let counted = length-packets_at one.tap.link one.tap.ifid one.tap.dir one.bytes.items one.extents in
    let so_far = rw (sym c.loop-trace.invariant.packets) at fits_one in
    omega arith
