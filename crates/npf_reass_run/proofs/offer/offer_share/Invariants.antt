use Rattle.std.proofs.Common.{◌≡◌, ◌≤◌, slice_range}
use Rattle.npf_reass.specs.Passes.{IsReassPass, sight}
use Rattle.npf_reass_run.proofs.OfferLemmas.{HasOfferedInOrder}
use Rattle.npf_reass_run.proofs.offer.offer_share.Given as goal

abbrev pub invariant-loop-place : goal.invariant-loop-place
invariant-loop-place g l = record {
  own : IsReassPass l.reass l.pass;
  places : (sight l.pass).places ≡ (sight l.fn.pass).places;
  order : l.first ≤ l.place;
  so_far : HasOfferedInOrder l.first (slice_range (g.S.Scan.packets l.scan) l.first l.place) (sight l.pass);
}
