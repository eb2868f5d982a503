use Rattle.std.proofs.Common.{All, drop, length}
use Rattle.npf_ctl_arrivals.specs.{Gathering.gathered_so_far, Within.{CrossesOneOf, IsWithinRun}}
use Rattle.npf_ctl_input.specs.Source.{Scripted}
use Rattle.npf_ctl_prepare.proofs.GatherLemmas.{GatheredSoFar}
use Rattle.npf_ctl_prepare.proofs.captures.gather_lines.Given as goal

abbrev pub invariant-loop-line : goal.invariant-loop-line
invariant-loop-line g l = record {
  so_far : GatheredSoFar (Scripted l.fn.lines) l.fn.ifaces.list l.fn.lines
      (g.F.Files.moment l.initial.files) (g.F.Files.moment l.files) (drop l.line-index l.fn.lines) (gathered_so_far l.arrivals);
  within : IsWithinRun (gathered_so_far l.arrivals);
  crosses : All (CrossesOneOf (length l.fn.ifaces.list)) (gathered_so_far l.arrivals).packets;
}
