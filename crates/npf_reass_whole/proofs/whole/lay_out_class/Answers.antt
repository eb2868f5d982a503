use Rattle.std.proofs.Common.{ap, get_or, List}
use Rattle.npf_pieces.specs.{declared.arrived.{Ending.TheVariants.Unfinished, SetAt.SetAt}, Datagram.WholeIfComplete}
use Rattle.npf_reass_whole.proofs.LayLemmas.{adds_none, adds_set, set_at_place}
use Rattle.npf_reass_whole.proofs.whole.lay_out_class.Goals as goal

pub loop-set-init : goal.loop-set-init
loop-set-init c = adds_none c.args.packets.now _

pub loop-set-preserved : goal.loop-set-preserved
loop-set-preserved c =
    let none : SetAt = record { first = 0; behind = 0; ending = Unfinished } in
    let i = c.loop-set.set-index in
    let value = c.deref-set-items.ensures.value in
    adds_set c.args.packets.now c.args.class.now.arrived.items c.args.class.now.sets.items i none (get_or c.deref-set-items.result.now i none) _ _ _
    (rw value at c.loop-set-test.true) (ap (λ (list : List SetAt). get_or list i none) value) c.loop-set.invariant
    (rw c.as_slice.ensures.value at c.in_ok-lay_out_set.ensures)

pub lay_out_set-requires-clause-whole : goal.lay_out_set-requires-clause-whole
lay_out_set-requires-clause-whole c =
    let none : SetAt = record { first = 0; behind = 0; ending = Unfinished } in
    let value = c.deref-set-items.ensures.value in
    rw c.as_slice.ensures.value (rw value
    (set_at_place WholeIfComplete c.args.class.now.arrived.items c.args.class.now.sets.items c.loop-set.set-index none (rw value at c.loop-set-test.true) c.requires.whole))
