-- What was gathered stands in front of what is still to be given, and each part that isn't empty leaves less.
use Rattle.std.proofs.Common.{◌≡◌, ◌++◌, length}
use Rattle.npf_outside.proofs.parts.gather.Given as goal

abbrev pub invariant-loop-bytes : goal.invariant-loop-bytes
invariant-loop-bytes g l = g.P.Parts.rest l.initial.parts ≡ l.bytes.items ++ g.P.Parts.rest l.parts

abbrev pub decreases-loop-bytes : goal.decreases-loop-bytes
decreases-loop-bytes g l = length (g.P.Parts.rest l.parts)
