use Rattle.std.{proofs.{Common.{rules, ◌≡◌, ℕ, ◌∷◌, ◌++◌, [], List, All, Some, sym, subst, arith}, lemmas.List.nil_from_length}, specs.List.AllZip}
use Rattle.std.proofs.lemmas.List.Elements.{All-contains, All-pop, Contains-push}
use Rattle.npf_pieces.specs.declared.{arrived.Arrived.Arrived, piece.Piece.Piece}
use Rattle.npf_reass_run.{specs.Gathering.{IsArrivedOffer, IsOfferAmong}, proofs.ListLemmas.{HasTaken, all_taken, taken_more}}
use Rattle.npf_reass_run.proofs.gather.arrived_list.Goals as goal

pub arrived_offer-requires : goal.arrived_offer-requires
arrived_offer-requires c =
    let P = IsOfferAmong c.args.packets.now in
    let offer = c.in-Some.offer in
    let all = subst (All P) c.in-Some.ensures.items c.loop-offer.invariant.among in
    All-contains P (c.pop.new.self.items ++ offer ∷ []) offer all (Contains-push c.pop.new.self.items offer)

pub loop-offer-preserved : goal.loop-offer-preserved
loop-offer-preserved c =
    let packets = c.args.packets.now in
    let P = IsOfferAmong packets in
    let after = c.pop.new.self.items in
    let kept : c.give_back.new.offers.items ≡ after = c.give_back.ensures in
    let inv = c.loop-offer.invariant in
    let left = (All-pop P c.loop-offer.offers.items after (Some c.in-Some.offer) c.in-Some.ensures.items inv.among).0 in
    let more = taken_more packets c.args.list.items c.loop-offer.offers.items after c.in-Some.offer
    c.loop-offer.arrived.items c.arrived_offer.result c.in-Some.ensures.items inv.taken c.arrived_offer.ensures in
    record {
      among = subst (All P) (sym kept) left;
      taken = rw c.push_reserved.ensures.items
          (subst (λ (rest : List (ℕ × Piece)). HasTaken packets c.args.list.items rest
          (c.loop-offer.arrived.items ++ c.arrived_offer.result ∷ [])) (sym kept) more);
      room = search rules;
    }

pub returns : goal.returns
returns c =
    let packets = c.args.packets.now in
    let none : c.loop-offer.offers.items ≡ [] =
    nil_from_length c.loop-offer.offers.items (omega (arith, c.in_default.ensures.cases.0, c.loop-offer.offers.ok.0)) in
    subst (λ (arrived : List Arrived). AllZip (IsArrivedOffer packets) c.args.list.items arrived)
    (sym c.reverse.ensures.items)
    (all_taken packets c.args.list.items c.loop-offer.offers.items c.loop-offer.arrived.items none c.loop-offer.invariant.taken)
