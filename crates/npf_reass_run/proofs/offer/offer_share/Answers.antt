use Rattle.std.proofs.Common.{rules, ◌≡◌, ◌∙◌, ◌<◌, length, false, is_err, arith}
use Rattle.npf_reass.specs.Passes.{sight}
use Rattle.npf_reass_run.proofs.{ListLemmas.some_of, OfferLemmas.{offered_more, was_ok}}
use Rattle.npf_reass_run.proofs.offer.offer_share.Goals as goal

pub loop-place-preserved : goal.loop-place-preserved
loop-place-preserved g c =
    let packets = g.S.Scan.packets c.args.scan.now in
    let place = c.loop-place.place in
    let inv = c.loop-place.invariant in
    let old = sight c.loop-place.pass in
    let new = sight c.offer_packet.new.pass in
    let here : place < length packets = omega (arith, c.loop-place-test.true, c.requires.within) in
    let d = some_of packets place here in
    let ok : is_err c.offer_packet.result ≡ false = search rules in
    record {
      own = c.offer_packet.ensures.own;
      places = c.offer_packet.ensures.places ∙ inv.places;
      order = omega (arith, inv.order);
      so_far = offered_more c.args.first place packets d old new inv.order here inv.so_far
          (was_ok c.offer_packet.result ok (c.offer_packet.ensures.offers d));
    }
