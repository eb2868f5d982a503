use Rattle.std.{proofs.Common.{◌<◌, ◌-◌, sym, subst, rules, All, length, drop}, specs.Prelude.slice_range}
use Rattle.std.proofs.lemmas.List.Elements.{All-drop, All-push, All-take}
use Rattle.npf_pieces.specs.{Datagram.{IsWholeSet, StandsAmong}, DatagramAt.PutTogether, Datagrams.laid_out}
use Rattle.npf_pieces_tests.proofs.JoiningLemmas.{last_here}
use Rattle.npf_pieces_tests.proofs.joining.add_if_complete.Goals as goal

pub returns-in_ok-add : goal.returns-in_ok-add
returns-in_ok-add c =
    let packets = c.args.packets.now in
    let all = c.args.arrived.now in
    let at = c.args.set.now in
    let set = slice_range all at.first at.behind in
    let whole : IsWholeSet set = search rules in
    let stand = All-take (StandsAmong packets) (at.behind - at.first) (drop at.first all) (All-drop (StandsAmong packets) at.first all c.requires.stand) in
    let P = λ (d : PutTogether). d.place < length packets in
    record {
      here = subst (All P) (sym c.in_ok-add.ensures.adds.adds) (All-push P (laid_out c.args.datagrams.now) _ c.requires.here (last_here packets set whole.whole stand));
    }
