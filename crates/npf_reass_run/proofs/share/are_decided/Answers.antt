use Rattle.std.proofs.{Common.{◌≡◌, true, sym, subst}, lemmas.List.{take_all, Elements.{All-more, All-same}}}
use Rattle.npf_reass_sets.specs.declared.class.ClassSets.{ClassSets}
use Rattle.npf_reass_run.proofs.share.are_decided.Goals as goal

pub loop-class-preserved : goal.loop-class-preserved
loop-class-preserved c =
    let P = λ (class : ClassSets). class.decided ≡ true in
    All-more P c.args.classes.now c.loop-class.class-index c.class-item.result c.loop-class-test.true c.loop-class.invariant
    (subst P c.class-item.is c.if-not-class.false)

pub returns : goal.returns
returns c = λ e.
    All-same (λ (class : ClassSets). class.decided ≡ true) _ _ (sym (take_all c.loop-class.class-index c.args.classes.now c.loop-class-test.false)) c.loop-class.invariant
