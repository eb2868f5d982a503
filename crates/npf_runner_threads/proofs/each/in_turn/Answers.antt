use Rattle.std.proofs.Common.{rules, ℕ, ◌+◌, ◌<◌, length, get_or, set, sym, subst, ◌∙◌, arith}
use borrow.Author.Count.{below_more}
use Rattle.std.proofs.lemmas.List.{get_or-set_same, get_or-set_other, get_or_default}
use Rattle.std.specs.Fork.{ChangesAt}
use Rattle.npf_runner_threads.proofs.each.in_turn.Goals as goal

pub loop-place-preserved : goal.loop-place-preserved
loop-place-preserved g c =
    let k = c.loop-place.place in let xs = c.args.part.now in let ys = c.loop-place.part in let y = c.at_one.new.item in
    let so = c.loop-place.invariant in
    let R : ℕ → g.row.T.Denot → g.row.T.Denot → Type 0 = λ j. ChangesAt g.F.Fn c.args.f.now (c.args.base + j) in
    let l : k < length ys = omega arith in
    record {
      same_length = search rules;
      rest = λ j d h. get_or-set_other ys k j y d (λ e. omega arith) ∙ so.rest j d (omega arith);
      done = λ j d h. below_more (λ i. R i (get_or xs i d) (get_or (set ys k y) i d)) k
          (λ i u. subst (R i (get_or xs i d)) (sym (get_or-set_other ys k i y d (λ e. omega arith))) (so.done i d u))
          (subst (R k (get_or xs k d)) (sym (get_or-set_same ys k y d l))
          (subst (λ x. R k x y) (get_or_default ys k _ d l ∙ so.rest k d (omega arith)) c.at_one.ensures))
          j h;
    }
