use Rattle.std.proofs.Common.{◌∙◌, ℕ, sym, subst, length, get_or}
use Rattle.npf_reass_whole.{specs.Run.HasPlacesBelow, proofs.HoldLemmas.classes_step}
use Rattle.npf_reass_whole.proofs.whole.hold_classes.Goals as goal

pub loop-class-preserved : goal.loop-class-preserved
loop-class-preserved c =
    rw c.hold_sets.ensures (
    sym (classes_step c.args.classes.now c.loop-class.class-index c.class-item.result c.class-item.result c.loop-class.packets c.loop-class-test.true c.class-item.is)
    ∙ c.loop-class.invariant
    )

pub hold_sets-requires : goal.hold_sets-requires
hold_sets-requires c =
    let item = c.class-item.result in
    subst (HasPlacesBelow (length c.loop-class.packets)) (sym c.class-item.is)
    (subst (λ (n : ℕ). HasPlacesBelow n (get_or c.args.classes.now c.loop-class.class-index item)) (sym c.loop-class.auto.packets)
    (c.requires c.loop-class.class-index item c.loop-class-test.true))
