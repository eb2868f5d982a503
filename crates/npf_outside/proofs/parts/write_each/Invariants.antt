-- The page keeps its room, and what was written stands in front of what is still to be given.
use Rattle.std.proofs.Common.{◌≤◌, length, vec_capacity}
use Rattle.npf_outside.{specs.declared.parts.TheConstants.PART_ROOM, proofs.PartLemmas.IsWrittenSoFar}
use Rattle.npf_outside.proofs.parts.write_each.Given as goal

abbrev pub invariant-loop-writer : goal.invariant-loop-writer
invariant-loop-writer g l = record {
  room : PART_ROOM ≤ vec_capacity l.page;
  so_far : IsWrittenSoFar (g.W.Write.contents l.initial.writer) (g.W.Write.contents l.writer) (g.P.Parts.rest l.initial.parts) (g.P.Parts.rest l.parts);
}

abbrev pub decreases-loop-writer : goal.decreases-loop-writer
decreases-loop-writer g l = length (g.P.Parts.rest l.parts)
