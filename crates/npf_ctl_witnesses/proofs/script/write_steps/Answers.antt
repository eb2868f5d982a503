use Rattle.std.proofs.{Common.{◌++◌, ◌∙◌, ap, arith}, lemmas.List.{flat_map_more, take_more}}
use Rattle.std.{proofs.Common.{sym, get_or, take}, specs.List.flat_map}
use Rattle.npf_ctl_witnesses.specs.WitnessFiles.{step_text}
use Rattle.npf_ctl_witnesses.proofs.AnyPacket.{any_packet}
use Rattle.npf_ctl_witnesses.proofs.script.write_steps.Goals as goal

pub loop-packet-preserved : goal.loop-packet-preserved
loop-packet-preserved c =
    let packets = c.args.packets.now in
    let i = c.loop-packet._packet-index in
    let old = c.args.into.now.items in
    c.in_ok-write_text.ensures
    ∙ ap (λ text. text ++ step_text any_packet) c.loop-packet.invariant
    ∙ flat_map_more step_text old (take i packets) (get_or packets i any_packet)
    ∙ ap (λ all. old ++ flat_map step_text all) (sym (take_more packets i any_packet (omega (arith, c.loop-packet-test.true))))
