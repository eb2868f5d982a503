use Rattle.std.proofs.{Common.{◌≡◌, ◌++◌, length, refl, ap, ◌∙◌, arith}, lemmas.Result.on_ok_weaker}
use Rattle.npf_pcap.specs.Spelling.{record_bytes, record_with}
use Rattle.npf_gen.specs.Datagram.{datagram_bytes}
use Rattle.npf_gen.proofs.workload.write_record.Goals as goal

pub append_record-requires : goal.append_record-requires
append_record-requires c =
    let bytes : c.as_slice.result.now ≡ datagram_bytes c.args.datagram.now = c.as_slice.ensures.value ∙ c.in_ok-write.ensures
    ∙ ap (λ front. front ++ datagram_bytes c.args.datagram.now) c.in_ok-bytes.ensures.items in
    let size = ap length bytes in
    let few : length (datagram_bytes c.args.datagram.now) ≡ 28 = refl in
    record { time = c.requires; short = omega arith }

pub returns : goal.returns
returns c =
    let bytes : c.as_slice.result.now ≡ datagram_bytes c.args.datagram.now = c.as_slice.ensures.value ∙ c.in_ok-write.ensures
    ∙ ap (λ front. front ++ datagram_bytes c.args.datagram.now) c.in_ok-bytes.ensures.items in
    on_ok_weaker c.append_record.result
    (λ is. is ∙ ap (λ all. c.args.out.now.items ++ record_bytes (record_with c.args.time all)) bytes) c.append_record.ensures.spelling
