use Rattle.std.proofs.Common.{◌∙◌, ◌+◌, ◌++◌, ◌∷◌, [], ap, sym, get_or, arith}
use Rattle.npf_ctl_witnesses.specs.WitnessFiles.{capture_file}
use Rattle.npf_ctl_witnesses.proofs.{AnyPacket.any_packet, NumberedLemmas.mapped_more}
use Rattle.npf_ctl_witnesses.proofs.files.files_of.Goals as goal

pub loop-place-preserved : goal.loop-place-preserved
loop-place-preserved c =
    let leaders = c.args.leaders.now in
    let i = c.loop-place.place in
    let file_of = capture_file c.args.ifaces.now c.args.packets.now c.args.prefix.now in
    c.in_ok-push.ensures.items
    ∙ ap (λ file. c.loop-place.files.items ++ file ∷ []) c.in_ok-capture_file.ensures
    ∙ ap (λ all. all ++ file_of (i + 1, get_or leaders i any_packet) ∷ []) c.loop-place.invariant
    ∙ sym (mapped_more file_of 1 leaders i (i + 1) any_packet (omega (arith, c.loop-place-test.true)) (omega arith))
