use Rattle.std.proofs.Common.{◌≡◌, ◌+◌, ◌≤◌, take}
use Rattle.npf_boxes.specs.Part.{AreLeft, IsToSplitBy}
use Rattle.npf_boxes.proofs.look.look.Given as goal

abbrev pub invariant-loop-other : goal.invariant-loop-other
invariant-loop-other l = record {
  left : AreLeft l.boxes (take l.other-index l.others) l.fn.words l.words l.left.others.items;
  by : IsToSplitBy l.left;
  most : l.steps.most ≡ l.initial.steps.most;
  within : l.initial.steps.taken ≤ l.initial.steps.most → l.steps.taken ≤ l.steps.most;
  counted : l.steps.taken ≡ l.initial.steps.taken + l.other-index;
}
