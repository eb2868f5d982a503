use Rattle.std.proofs.Common.{◌≡◌, ◌≤◌, ◌<◌, ◌+◌, ◌↔◌, ℕ, take, vec_len, get_or}
use Rattle.npf_cut.specs.{Partition.AreParts, Span.{IsSpanned, interval_count}}
use Rattle.npf_cut.proofs.partition.Partition.refine.Given as goal

abbrev pub invariant-loop-span : goal.invariant-loop-span
invariant-loop-span l = record {
  parts : AreParts l.fn.self.classes.items l.self.classes.items l.self.parts.items l.fresh;
  moved : (k : ℕ) → k < vec_len l.fn.self.classes → (l.fresh ≤ get_or l.self.classes.items k 0) ↔ IsSpanned (take l.span-index l.spans) k;
  counted : l.steps.taken ≡ l.fn.steps.taken + interval_count (take l.span-index l.spans);
  most : l.steps.most ≡ l.fn.steps.most;
  rises : l.fn.steps.taken ≤ l.steps.taken;
}
