use Rattle.std.proofs.{Common.{◌≡◌, length, arith, subst, ℕ}, lemmas.List.get_or_default}
use Rattle.npf_cut.proofs.SpanLemmas.{AreSpansOf, no_range, spans_more, spans_same, spans_within}
use Rattle.npf_cut.proofs.span.spans_of.Goals as goal

pub loop-range-preserved : goal.loop-range-preserved
loop-range-preserved c =
    let ranges = c.args.ranges.now in
    let at = c.loop-range.range-index in
    rw c.in_ok-push.ensures.items
    (spans_more c.args.starts.now ranges c.loop-range.spans.items at _ c.span_at.result (λ d. get_or_default ranges at d no_range c.loop-range-test.true) c.span_at.ensures c.loop-range.invariant)

pub returns-clause-within : goal.returns-clause-within
returns-clause-within c =
    let e : c.loop-range.range-index ≡ length c.args.ranges.now = omega arith in
    spans_within c.args.starts.now c.args.ranges.now c.loop-range.spans.items (subst (λ (n : ℕ). AreSpansOf c.args.starts.now c.args.ranges.now c.loop-range.spans.items n) e c.loop-range.invariant)

pub returns-clause-same : goal.returns-clause-same
returns-clause-same c =
    let e : c.loop-range.range-index ≡ length c.args.ranges.now = omega arith in
    spans_same c.args.starts.now c.args.ranges.now c.loop-range.spans.items (subst (λ (n : ℕ). AreSpansOf c.args.starts.now c.args.ranges.now c.loop-range.spans.items n) e c.loop-range.invariant)
