use Rattle.std.proofs.Common.{◌∙◌, refl, sym, get_or}
use Rattle.npf_pieces.specs.declared.arrived.{Ending.TheVariants.Unfinished, SetAt.SetAt}
use Rattle.npf_reass_whole.proofs.HoldLemmas.{sets_step}
use Rattle.npf_reass_whole.proofs.whole.hold_sets.Goals as goal

pub loop-set-preserved : goal.loop-set-preserved
loop-set-preserved c =
    let none : SetAt = record { first = 0; behind = 0; ending = Unfinished } in
    let sets = c.args.class.now.sets.items in
    let i = c.loop-set.set-index in
    let value = c.deref-set-items.ensures.value in
    rw c.hold_pieces.ensures (rw c.why_held.ensures (rw c.deref.ensures.value (rw value (
    sym (sets_step c.args.class.now.arrived.items sets i none (get_or sets i none) c.loop-set.packets (rw value at c.loop-set-test.true) refl) ∙ c.loop-set.invariant
    ))))
