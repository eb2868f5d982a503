use Rattle.std.proofs.Common.{◌≡◌}
use Rattle.npf_reass.specs.Passes.{IsReassPass, sight}
use Rattle.npf_reass_tests.proofs.lists.offer_all.Given as goal

abbrev pub invariant-loop-number : goal.invariant-loop-number
invariant-loop-number g l = record {
  own : IsReassPass l.reass l.pass;
  places : (sight l.pass).places ≡ (sight l.fn.pass).places;
}
