use Rattle.std.proofs.{Common.{◌∙◌, arith}, lemmas.List.with_items_is}
use Rattle.core.specs.Mem.Slots.{slots_counts, slots_items}
use Rattle.npf_reass.proofs.{CloseLemmas.{closed_alone, closed_has}, SortLemmas.lists_so}
use Rattle.npf_reass.proofs.reass.Reass.close.Goals as goal

pub returns-clause-lists : goal.returns-clause-lists
returns-clause-lists c =
    let size = c.args.self.table.shared.key in
    let v = c.args.pass.seat.me.0 in
    let rests = c.requires.own.rests in
    let slots = c.close_with.result.slots in
    let counts = slots_counts slots in
    let whole = with_items_is c.drain.new.lists c.sort_each.new.lists (omega (arith, c.sort_each.auto.lists, c.as_mut_slice.ensures.len)) in
    let sorts = rw (c.as_mut_slice.ensures.value ∙ c.drain.ensures) at c.sort_each.ensures in
    rw whole (lists_so size.classes v.seats.history (slots_items slots) _ (omega (arith, counts.0, c.close_with.ensures.counts.1, c.requires.own.of.slots))
    (λ class h. closed_has size c.args.pass.seat.id v _ _ c.close_with.ensures.values.2 rests.lives rests.turn rests.theirs c.requires.all class h) sorts)

pub returns-clause-alone : goal.returns-clause-alone
returns-clause-alone c = λ ok.
    let rests = c.requires.own.rests in
    closed_alone c.args.self.table.shared.key c.args.pass.seat.id c.args.pass.seat.me.0 _ _ c.close_with.ensures.values.2 rests.lives rests.turn rests.theirs c.requires.all
