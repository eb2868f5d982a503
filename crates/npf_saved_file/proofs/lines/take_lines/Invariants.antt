use Rattle.std.proofs.Common.{◌≡◌, ◌≤◌, ◌+◌, ◌++◌, length}
use Rattle.npf_saved.specs.File.{saved_text}
use Rattle.npf_saved_file.{specs.Lines.AreTaken, proofs.OnlyLemmas.IsSoFar}
use Rattle.npf_saved_file.proofs.lines.take_lines.Given as goal

abbrev pub invariant-loop-rest : goal.invariant-loop-rest
invariant-loop-rest l = record {
  taken : AreTaken l.lines;
  spelled : l.fn.text ≡ saved_text l.lines.names.items l.lines.conns.items ++ l.rest;
  only : IsSoFar l.fn.text l.lines.names.items l.lines.conns.items l.rest;
  counted : l.number ≡ length l.lines.names.items + length l.lines.conns.items + 1;
  room : l.number + length l.rest ≤ length l.fn.text;
}

abbrev pub decreases-loop-rest : goal.decreases-loop-rest
decreases-loop-rest l = length l.rest
