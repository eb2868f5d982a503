use Rattle.std.proofs.{Common.{◌≡◌, ◌<◌, ◌≤◌, ◌∙◌, true, ⊎_elim, sym, get_or, arith}, lemmas.Bool.cases_lt}
use Rattle.npf_reass_sets.specs.Class.{same_key}
use Rattle.npf_reass_sets.proofs.class.key_end.Goals as goal

pub loop-to-preserved : goal.loop-to-preserved
loop-to-preserved c = λ k d low high.
    let to = c.loop-to.to in
    let all = c.args.arrived.now in
    ⊎_elim (λ (lt : k < to). c.loop-to.invariant k d low lt)
    (λ (le : to ≤ k).
    let e : k ≡ to = omega (arith, le, high) in
    let same : same_key (get_or all c.args.from d) (get_or all to d) ≡ true =
    sym (c.is_same_key.ensures d) ∙ c.if-not-is_same_key.false in
    rw e same)
    (cases_lt k to)
