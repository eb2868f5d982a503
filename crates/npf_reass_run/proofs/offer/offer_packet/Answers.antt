use Rattle.std.proofs.Common.{get_or}
use Rattle.npf_reass.specs.Passes.{sight}
use Rattle.npf_reass_run.proofs.OfferLemmas.{offers_piece}
use Rattle.npf_reass_run.proofs.offer.offer_packet.Goals as goal

pub returns-in-Piece-clause-offers : goal.returns-in-Piece-clause-offers
returns-in-Piece-clause-offers g c = λ d.
    offers_piece c.args.place (get_or (g.S.Scan.packets c.args.scan.now) c.args.place d)
    (sight c.args.pass.now) (sight c.offer.new.pass) c.in-Piece.piece (c.in-Piece.ensures d)
    c.offer.result c.offer.ensures.offered
