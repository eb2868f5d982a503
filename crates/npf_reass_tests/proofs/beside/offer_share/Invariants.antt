use Rattle.std.proofs.Common.{◌≡◌}
use Rattle.npf_reass.specs.Passes.{IsReassPass, sight}
use Rattle.npf_reass_tests.proofs.beside.offer_share.Given as goal

abbrev pub invariant-loop-round : goal.invariant-loop-round
invariant-loop-round g l = record {
  own : IsReassPass l.reass l.pass;
  places : (sight l.pass).places ≡ (sight l.fn.pass).places;
}
