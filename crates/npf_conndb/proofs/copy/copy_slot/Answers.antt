use Rattle.std.proofs.Common.{length, ap, ◌∙◌, subst}
use Rattle.npf_cells_rule.specs.Passes.{CarriesByTurn}
use Rattle.npf_turn.proofs.WorkLemmas.{has_turn, exchanged, gave}
use Rattle.npf_conndb.proofs.CopyLemmas.{works_seen, found_still, may_end_copied, copied_back, copies_back}
use Rattle.npf_conndb.proofs.copy.copy_slot.Goals as goal

pub exchange-running-requires-clause-turn : goal.exchange-running-requires-clause-turn
exchange-running-requires-clause-turn g c =
    has_turn _ _ _ _ _ _ (works_seen g.L.Law.meaning c.args.slot c.args.pass.now.seat.me _ _ c.wait_turn.ensures.takes c.see.ensures.sees c.requires.legal c.requires.sole)

pub exchange-requires-clause-turn : goal.exchange-requires-clause-turn
exchange-requires-clause-turn g c =
    let seen = works_seen g.L.Law.meaning c.args.slot c.args.pass.now.seat.me _ _ c.wait_turn.ensures.takes c.see.ensures.sees c.requires.legal c.requires.sole in
    has_turn _ _ _ _ _ _ (exchanged _ _ _ _ _ _ seen _ _ c.exchange-running.ensures.next)

pub copy_running-kept-requires-clause-sole : goal.copy_running-kept-requires-clause-sole
copy_running-kept-requires-clause-sole g c =
    let seen = works_seen g.L.Law.meaning c.args.slot c.args.pass.now.seat.me _ _ c.wait_turn.ensures.takes c.see.ensures.sees c.requires.legal c.requires.sole in
    let out = exchanged _ _ _ _ _ _ seen _ _ c.exchange-running.ensures.next in
    let back = exchanged _ _ _ _ _ _ out _ _ c.exchange.ensures.next in
    ap (λ y. length y.0.seats.readers) back.is ∙ c.requires.sole

pub copy_running-kept-requires-clause-found : goal.copy_running-kept-requires-clause-found
copy_running-kept-requires-clause-found g c =
    let seen = works_seen g.L.Law.meaning c.args.slot c.args.pass.now.seat.me _ _ c.wait_turn.ensures.takes c.see.ensures.sees c.requires.legal c.requires.sole in
    let held = gave _ _ _ _ _ _ seen _ c.exchange-running.ensures.gives in
    let out = exchanged _ _ _ _ _ _ seen _ _ c.exchange-running.ensures.next in
    let back = exchanged _ _ _ _ _ _ out _ _ c.exchange.ensures.next in
    found_still g.L.Law.meaning c.args.slot c.args.pass.now.seat.me _ _ c.wait_turn.ensures.takes c.see.ensures.sees c.requires.legal c.requires.sole _ _ held back

pub end_turn-requires-clause-may : goal.end_turn-requires-clause-may
end_turn-requires-clause-may g c =
    let seen = works_seen g.L.Law.meaning c.args.slot c.args.pass.now.seat.me _ _ c.wait_turn.ensures.takes c.see.ensures.sees c.requires.legal c.requires.sole in
    let held = gave _ _ _ _ _ _ seen _ c.exchange-running.ensures.gives in
    let out = exchanged _ _ _ _ _ _ seen _ _ c.exchange-running.ensures.next in
    let back = exchanged _ _ _ _ _ _ out _ _ c.exchange.ensures.next in
    may_end_copied g.L.Law.meaning c.args.slot c.args.pass.now.seat.me _ _ c.wait_turn.ensures.takes c.see.ensures.sees
    c.requires.legal c.requires.sole _ _ c.args.pass.now.seat.me _ held back c.copy_running-kept.ensures.copied.is

pub returns-clause-copied : goal.returns-clause-copied
returns-clause-copied g c =
    let m = g.L.Law.meaning in
    let old = c.args.pass.now.seat.me in
    let seen = works_seen m c.args.slot old _ _ c.wait_turn.ensures.takes c.see.ensures.sees c.requires.legal c.requires.sole in
    let held = gave _ _ _ _ _ _ seen _ c.exchange-running.ensures.gives in
    let out = exchanged _ _ _ _ _ _ seen _ _ c.exchange-running.ensures.next in
    let back = exchanged _ _ _ _ _ _ out _ _ c.exchange.ensures.next in
    let copied = c.copy_running-kept.ensures.copied in
    record {
      copies = copies_back m c.args.slot old _ _ c.wait_turn.ensures.takes c.see.ensures.sees c.requires.legal c.requires.sole _ _ c.end_turn.new.pass.seat.me _ held back copied.is _ copied.copies;
      is = copied_back m c.args.slot old _ _ c.wait_turn.ensures.takes c.see.ensures.sees c.requires.legal c.requires.sole _ _ _ _ held back copied.is c.end_turn.ensures.tells c.requires.turnless
          (subst (λ t. CarriesByTurn t old.1) c.requires.turnless c.requires.own.carries);
    }
