use Rattle.std.proofs.Common.{refl}
use Rattle.npf_turn.proofs.WorkLemmas.{works, exchanged, phased, may_abandon}
use Rattle.npf_turn.proofs.work.kill.Goals as goal

pub end_turn-requires-clause-may : goal.end_turn-requires-clause-may
end_turn-requires-clause-may g c =
    let got = works _ _ c.args.id.slot c.wait_turn.ensures.takes in
    let out = exchanged _ _ _ _ _ _ got _ _ c.exchange.ensures.next in
    let stored = phased _ _ _ _ _ _ out _ 2 c.store_private.ensures.next in
    may_abandon _ _ _ _ _ _ stored g.L.Law.meaning c.args.id refl c.requires.builds c.requires.stored c.requires.notes refl refl
