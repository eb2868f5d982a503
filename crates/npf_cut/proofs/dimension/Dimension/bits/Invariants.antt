use Rattle.std.proofs.Common.{◌≡◌, ◌≤◌, ◌<◌, ◌+◌, ◌*◌, ◌/◌, ◌↔◌, ℕ, true, take}
use Rattle.npf_cut.specs.{Dimension.{IsClassOf, class_count}, SetBits.has_class, Span.interval_count}
use Rattle.npf_cut.proofs.dimension.Dimension.bits.Given as goal

abbrev pub invariant-loop-span : goal.invariant-loop-span
invariant-loop-span l = record {
  sets : l.bits.sets ≡ l.sets;
  words : l.bits.per_set ≡ (class_count l.self + 63) / 64;
  classes : (set class : ℕ) → set < l.sets → class < 64 * l.bits.per_set
      → (has_class l.bits set class ≡ true) ↔ IsClassOf l.self.classes.items (take l.span-index l.self.spans.items) set class;
  counted : l.steps.taken ≡ l.fn.steps.taken + interval_count (take l.span-index l.self.spans.items);
  most : l.steps.most ≡ l.fn.steps.most;
  rises : l.fn.steps.taken ≤ l.steps.taken;
}
