use Rattle.std.proofs.Common.{◌≡◌, ℕ, ◌-◌, ◌≤◌, true, false, List}
use Rattle.std.specs.Prelude.{All}
use Rattle.npf_boxes.specs.Cell.{any_has, in_box}
use Rattle.npf_boxes.specs.Part.{IsPartOf, any_part_has}
use Rattle.npf_boxes.proofs.search.outside.Given as goal

abbrev pub invariant-loop-part : goal.invariant-loop-part
invariant-loop-part l = record {
  parts : All (IsPartOf l.boxes l.from l.others) l.parts.items;
  left : (cell : List ℕ) → in_box l.boxes.shape l.from cell ≡ true → any_has l.boxes l.others cell ≡ false → any_part_has l.boxes.shape l.parts.items cell ≡ true;
  most : l.steps.most ≡ l.initial.steps.most;
  rises : l.initial.steps.taken ≤ l.steps.taken;
}

abbrev pub decreases-loop-part : goal.decreases-loop-part
decreases-loop-part l = l.steps.most - l.steps.taken
