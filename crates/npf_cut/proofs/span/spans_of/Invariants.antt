use Rattle.npf_cut.proofs.SpanLemmas.{AreSpansOf}
use Rattle.npf_cut.proofs.span.spans_of.Given as goal

abbrev pub invariant-loop-range : goal.invariant-loop-range
invariant-loop-range l = AreSpansOf l.starts l.ranges l.spans.items l.range-index
