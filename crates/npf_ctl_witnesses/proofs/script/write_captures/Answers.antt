use Rattle.std.proofs.Common.{◌+◌, ◌++◌, ◌∙◌, ap, get_or, arith}
use Rattle.npf_ctl_witnesses.specs.WitnessFiles.{capture_line}
use Rattle.npf_ctl_witnesses.proofs.{AnyPacket.any_packet, NumberedLemmas.written_more}
use Rattle.npf_ctl_witnesses.proofs.script.write_captures.Goals as goal

pub loop-place-preserved : goal.loop-place-preserved
loop-place-preserved c =
    let leaders = c.args.leaders.now in
    let i = c.loop-place.place in
    let line = capture_line c.args.ifaces.now c.args.prefix.now in
    c.in_ok-write_capture_line.ensures
    ∙ ap (λ text. text ++ line (i + 1, get_or leaders i any_packet)) c.loop-place.invariant
    ∙ written_more line 1 leaders i (i + 1) any_packet (omega (arith, c.loop-place-test.true)) (omega arith) c.args.into.now.items
