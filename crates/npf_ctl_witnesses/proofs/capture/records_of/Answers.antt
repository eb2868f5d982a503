use Rattle.std.proofs.Common.{List, ◌∙◌, ◌+◌, ◌++◌, ◌∷◌, [], ap, subst, sym, get_or, arith}
use Rattle.std.{specs.Prelude.All, proofs.lemmas.List.Elements.{All-append, All-cons, All-nil}}
use Rattle.npf_pcap.specs.{declared.capture.Record.Record, Spelling.FitsCapture}
use Rattle.npf_ctl_witnesses.specs.WitnessFiles.{passes_with, witness_record}
use Rattle.npf_ctl_witnesses.proofs.{AnyPacket.any_packet, NumberedLemmas.{kept_more, left_more}}
use Rattle.npf_ctl_witnesses.proofs.capture.records_of.Goals as goal
use Rattle.npf_ctl_witnesses.proofs.capture.records_of.Goals.{then-pass_alike+in_ok-witness_record+in_ok-push, else-pass_alike}

pub loop-place-preserved : goal.loop-place-preserved
loop-place-preserved c =
    let ifaces = c.args.ifaces.now in
    let packets = c.args.packets.now in
    let one = c.args.one.now in
    let i = c.loop-place.place in
    elim c.if-pass_alike.branch [
      | then-pass_alike+in_ok-witness_record+in_ok-push w ↦
          let pushed = ap (λ v. v.items) w.records-is ∙ w.in_ok-push.ensures.items in record {
            told =
                pushed
                ∙ ap (λ sent. c.loop-place.records.items ++ sent ∷ []) w.in_ok-witness_record.ensures.record
                ∙ ap (λ all. all ++ witness_record (i + 1, get_or packets i any_packet) ∷ []) c.loop-place.invariant.told
                ∙ sym (kept_more (passes_with ifaces one) witness_record 1 packets i (i + 1) any_packet (omega (arith, c.loop-place-test.true)) (omega arith)
                (sym c.pass_alike.ensures ∙ w.if-pass_alike.true));
            fit =
                subst (λ (all : List Record). All FitsCapture all) (sym pushed)
                (All-append FitsCapture c.loop-place.records.items (w.in_ok-witness_record.field-0 ∷ []) c.loop-place.invariant.fit
                (All-cons FitsCapture w.in_ok-witness_record.field-0 [] w.in_ok-witness_record.ensures.fits (All-nil FitsCapture)));
          }
      | else-pass_alike w ↦
          let same = ap (λ v. v.items) w.records-is in record {
            told =
                same ∙ c.loop-place.invariant.told
                ∙ sym (left_more (passes_with ifaces one) witness_record 1 packets i (i + 1) any_packet (omega (arith, c.loop-place-test.true)) (omega arith)
                (sym c.pass_alike.ensures ∙ w.if-pass_alike.false));
            fit = subst (λ (all : List Record). All FitsCapture all) (sym same) c.loop-place.invariant.fit;
          }
    ]
