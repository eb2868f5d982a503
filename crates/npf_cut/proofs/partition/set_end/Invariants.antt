use Rattle.std.{proofs.Common.{◌≡◌, ℕ, ◌<◌, ◌≤◌}, specs.Prelude.slice_index_or}
use Rattle.npf_cut.specs.declared.span.SetSpan.{SetSpan}
use Rattle.npf_cut.proofs.partition.set_end.Given as goal

abbrev pub invariant-loop-to : goal.invariant-loop-to
invariant-loop-to l = (k : ℕ) (d : SetSpan) → l.from ≤ k → k < l.to → (slice_index_or l.spans k d).set ≡ (slice_index_or l.spans l.from d).set
