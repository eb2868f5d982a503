use Rattle.std.proofs.Common.{◌≡◌, map}
use Rattle.npf_ctl_check.specs.AskedAbout.{numbered_expectation}
use Rattle.npf_ctl_check.proofs.asked.numbered_all.Given as goal

abbrev pub invariant-loop-expectation : goal.invariant-loop-expectation
invariant-loop-expectation l = record {
  can : (goal.iterator-loop-expectation).can_next l.expectation-iterator;
  finite : (goal.iterator-loop-expectation).is_finite l.expectation-iterator;
  all : l.all.items ≡ map (numbered_expectation l.ifaces.list) l.yielded;
}
