use Rattle.std.proofs.{Common.{sym, subst}, lemmas.List.{take_all, Elements.{All-more, All-same}}}
use Rattle.npf_traffic.specs.declared.packet.Packet.{Packet}
use Rattle.npf_pieces.specs.{declared.piece.Seen.Seen, Piece.SeenAs}
use Rattle.npf_reass_run.proofs.gather.has_fragment.Goals as goal

pub loop-packet-preserved : goal.loop-packet-preserved
loop-packet-preserved c =
    let P = λ (p : Packet). SeenAs p Seen.NoFragment in
    All-more P c.args.packets.now c.loop-packet.packet-index c.packet-item.result c.loop-packet-test.true c.loop-packet.invariant
    (subst P c.packet-item.is (c.is_whole.ensures c.if-not-is_whole.false))

pub returns : goal.returns
returns c = λ e.
    All-same (λ (p : Packet). SeenAs p Seen.NoFragment) _ _ (sym (take_all c.loop-packet.packet-index c.args.packets.now c.loop-packet-test.false)) c.loop-packet.invariant
