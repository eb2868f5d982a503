use Rattle.std.proofs.{Common.{sym, subst, All}, lemmas.List.Elements.All-push}
use Rattle.npf_pieces.specs.Datagram.{StandsAmong}
use Rattle.npf_pieces_tests.proofs.joining.add_if_piece.Goals as goal

pub returns-clause-stand : goal.returns-clause-stand
returns-clause-stand c =
    let P = StandsAmong c.args.packets.now in
    subst (All P) (sym c.in_ok-push.ensures.items) (All-push P c.args.arrived.now.items c.in-Some.piece c.requires.stand c.in-Some.ensures.stands)
