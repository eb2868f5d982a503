use Rattle.std.proofs.{Common.{◌≡◌, ◌∙◌, ◌+◌, ◌<◌, ◌^◌, sym, ap, subst, [], ◌∷◌, length, drop, length-drop, arith, rules}, lemmas.List.{drop-drop, map-append}}
use Rattle.std.proofs.lemmas.{List.Elements.All-push, Result.err_from_is_err_and}
use Rattle.npf_pcap.{specs.{Extent.{record_at, records_at, EndsWithin, IsShort, IsTimely}, Record.record_len}, proofs.ExtentLemmas.apart_push}
use Rattle.npf_pcap.proofs.RecordLemmas.{Progress, progress_more, progress_end, progress_fault}
use Rattle.npf_pcap.proofs.read.extents_of.Goals as goal

pub overflow_add-number : goal.overflow_add-number
overflow_add-number c =
    let small : c.loop-at.number + 1 < 2 ^ 32 = omega (arith, c.loop-at.invariant.progress.room, length-drop 24 c.args.bytes.now, c.requires.size) in
    search rules

pub returns-in_err-extent-clause-fault : goal.returns-in_err-extent-clause-fault
returns-in_err-extent-clause-fault c =
    let bytes = c.args.bytes.now in
    let p = err_from_is_err_and c.from_residual.result c.from_residual.ensures.1 in
    rw (p.1, p.2) (progress_fault c.args.format (drop 24 bytes) (drop c.loop-at.at bytes) c.loop-at.number
    (records_at bytes c.loop-at.extents.items) c.in_err-extent.field-0.0 c.loop-at.invariant.progress c.in_err-extent.ensures.fault)

pub loop-at-preserved : goal.loop-at-preserved
loop-at-preserved c =
    let format = c.args.format in
    let bytes = c.args.bytes.now in
    let rest = drop c.loop-at.at bytes in
    let extents = c.loop-at.extents.items in
    let extent = c.in_ok-extent.extent in
    let next = drop (extent.at + extent.len) bytes in
    let behind : next ≡ drop (record_len format rest) rest = ap (λ n. drop n bytes) c.in_ok-extent.ensures.behind ∙ sym (drop-drop (record_len format rest) c.loop-at.at bytes) in
    let more = progress_more format (drop 24 bytes) rest next c.loop-at.number (records_at bytes extents) (record_at bytes extent) c.loop-at.invariant.progress c.in_ok-extent.ensures.read behind in
    rw c.in_ok-push.ensures.items (record {
      progress = subst (Progress format (drop 24 bytes) next (c.loop-at.number + 1)) (sym (map-append (record_at bytes) extents (extent ∷ []))) more;
      inside = c.in_ok-extent.ensures.within;
      within = All-push (EndsWithin (length bytes)) extents extent c.loop-at.invariant.within c.in_ok-extent.ensures.within;
      apart = apart_push 0 extents c.loop-at.at extent c.loop-at.invariant.apart c.in_ok-extent.ensures.ahead;
      short = All-push IsShort extents extent c.loop-at.invariant.short c.in_ok-extent.ensures.short;
      timely = All-push IsTimely extents extent c.loop-at.invariant.timely c.in_ok-extent.ensures.timely;
    })

pub returns-clause-read : goal.returns-clause-read
returns-clause-read c =
    let bytes = c.args.bytes.now in
    rw c.of_vec.ensures (progress_end c.args.format (drop 24 bytes) (drop c.loop-at.at bytes) c.loop-at.number (records_at bytes c.loop-at.extents.items) c.loop-at.invariant.progress
    (omega (arith, length-drop c.loop-at.at bytes, c.loop-at-test.false)))
