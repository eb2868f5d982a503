use Rattle.npf_boxes.proofs.SplitLemmas.{IsSplit}
use Rattle.npf_boxes.proofs.split.split.Given as goal

abbrev pub invariant-loop-dimension : goal.invariant-loop-dimension
invariant-loop-dimension l = IsSplit l.boxes l.fn.part l.other l.initial.parts.items l.rest.items l.parts.items l.dimension
