use Rattle.std.{proofs.{Common.{◌∙◌, ◌++◌, List, [], ◌∷◌, ℕ, ap, sym, take, arith}, lemmas.List.{flat_map_more, take_all, take_more}}, specs.List.flat_map}
use Rattle.npf_pcap.{specs.{declared.capture.Record.Record, Spelling.{header_bytes, record_bytes, record_with}}, proofs.SpellingLemmas.written_is_capture}
use Rattle.npf_pcap.proofs.write.write_capture.Goals as goal

pub loop-record-preserved : goal.loop-record-preserved
loop-record-preserved c =
    let all = c.args.records.now in
    let i = c.loop-record.record-index in
    let r = c.record-item.result in
    c.in_ok-append_record.ensures.spelling
    ∙ ap (λ (bytes : List ℕ). c.loop-record.out.items ++ record_bytes (record_with r.time bytes)) c.as_slice.ensures
    ∙ ap (λ (out : List ℕ). out ++ record_bytes r) c.loop-record.invariant
    ∙ flat_map_more record_bytes header_bytes (take i all) r
    ∙ ap (λ (rs : List Record). header_bytes ++ flat_map record_bytes rs)
    (sym (take_more all i r (omega arith) ∙ ap (λ (x : Record). take i all ++ x ∷ []) (sym c.record-item.is)))

pub returns-clause-reads_again : goal.returns-clause-reads_again
returns-clause-reads_again c =
    let all = c.args.records.now in
    let i = c.loop-record.record-index in
    rw (c.loop-record.invariant, take_all i all (omega arith)) (written_is_capture all c.requires)
