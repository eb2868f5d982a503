use Rattle.std.proofs.Common.{rules, ◌≡◌, [], ◌∷◌, None, true, refl, sym, ap, ◌∙◌}
use Rattle.npf_turn.proofs.WorkLemmas.{works, exchanged, gave, phased, inc_shown, may_expire, due_flow}
use Rattle.npf_turn.proofs.work.expire.Goals as goal

pub end_turn-requires-2-clause-may : goal.end_turn-requires-2-clause-may
end_turn-requires-2-clause-may g c =
    let got = works _ _ c.args.slot c.wait_turn.ensures.takes in
    let found = c.is_due.ensures.finds in
    let looked = exchanged _ _ _ _ _ _ got _ _ found.is in
    let due = due_flow g.L.Law.meaning c.args.now found.held (sym found.answers ∙ search rules) in
    let held = gave _ _ _ _ _ _ got _ found.was ∙ due.1.0 in
    let inc = inc_shown _ _ _ _ _ _ looked _ _ _ held c.load_inc-inc.ensures.turn in
    let out = exchanged _ _ _ _ _ _ looked _ None (c.exchange.ensures.next ∙ ap (λ y. (y.0, (c.args.slot, None) ∷ [])) c.load_inc-inc.ensures.same) in
    let stored = phased _ _ _ _ _ _ out _ 2 c.store_private.ensures.next in
    may_expire _ _ _ _ _ _ stored g.L.Law.meaning _ c.args.now _ _ refl (sym inc) held due.1.1 refl refl
