-- What was written is in the writer; each turn writes some bytes, or is one of the interruptions.
use Rattle.std.{proofs.Common.{◌-◌, ◌+◌, ◌≤◌, length, take}, specs.Io.KnownBytes.Appends}
use Rattle.npf_outside.proofs.write_front.write_front.Given as goal

abbrev pub invariant-loop-taken : goal.invariant-loop-taken
invariant-loop-taken g l = record {
  within : l.taken ≤ length l.bytes;
  few : l.interruptions ≤ 1000;
  taken : Appends (g.W.Write.contents l.initial.writer) (g.W.Write.contents l.writer) (take l.taken l.bytes);
}

abbrev pub decreases-loop-taken : goal.decreases-loop-taken
decreases-loop-taken g l = (length l.bytes - l.taken) + (1000 - l.interruptions)
