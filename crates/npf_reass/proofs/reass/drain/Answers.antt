use Rattle.std.proofs.{Common.{◌≡◌, ◌≢◌, ◌∙◌, sym, false, ⊎_elim, arith, get_or-set_other}, lemmas.Bool.cases_eq}
use Rattle.core.specs.Mem.Slots.{slots_filled, slots_items}
use Rattle.npf_reass.proofs.CloseLemmas.{offers_more, set_false}
use Rattle.npf_reass.proofs.reass.drain.Goals as goal

pub loop-class-preserved : goal.loop-class-preserved
loop-class-preserved c =
    let class = c.loop-class.class in
    let filled = slots_filled c.loop-class.closed.slots in
    let others = c.take-offers.ensures.others in
    let was = c.loop-class.invariant in
    record {
      same = others.0 ∙ was.same;
      count = others.2 ∙ was.count;
      full = λ k h lt. let ne : k ≢ class = omega arith in rw others.1 (get_or-set_other filled class k false false ne ∙ was.full k (omega arith) (omega (arith, others.2)));
      taken = λ k h. rw others.1 (⊎_elim
          (λ (e : k ≡ class). rw e (set_false filled class))
          (λ (ne : k ≢ class). get_or-set_other filled class k false false ne ∙ was.taken k (omega arith))
          (cases_eq k class));
      lists = rw c.push_reserved.ensures.items (rw was.lists (sym (offers_more (slots_items c.args.closed.slots) class c.take-offers.result (rw was.same at c.take-offers.ensures.value))));
      room = c.push_reserved.ensures.capacity ∙ was.room;
    }
