use Rattle.std.proofs.Common.{◌≡◌, ◌<◌, ℕ, Bool, true, false, not, length, take, refl, subst, arith}
use Rattle.npf_saved_file.proofs.DifferenceLemmas.{differs_here, ends_here, one_name, same_further, two_names}
use Rattle.npf_saved_file.proofs.read.first_difference.Goals as goal

off : (same : Bool) → true ≡ not same → same ≡ false
off true is = cc
off false is = refl

on : (same : Bool) → false ≡ not same → same ≡ true
on true is = refl
on false is = cc

pub returns-then-ne-clause-differs : goal.returns-then-ne-clause-differs
returns-then-ne-clause-differs c =
    let one = c.index-one-place.result in
    let other = c.index-other-place.result in
    differs_here c.args.one.now c.args.other.now c.loop-place.place one other (omega arith) (omega arith) c.loop-place.invariant c.index-one-place.is c.index-other-place.is
    (two_names one other (off _ c.if-ne.ensures))

pub loop-place-preserved : goal.loop-place-preserved
loop-place-preserved c =
    let one = c.index-one-place.result in
    let other = c.index-other-place.result in
    same_further c.args.one.now c.args.other.now c.loop-place.place one other (omega arith) (omega arith) c.loop-place.invariant c.index-one-place.is c.index-other-place.is
    (one_name one other (on _ c.if-ne.ensures))

pub returns-clause-differs : goal.returns-clause-differs
returns-clause-differs c =
    let end : c.loop-place.place ≡ c.min-shared.result = omega arith in
    ends_here c.args.one.now c.args.other.now c.min-shared.result c.min-shared.ensures c.if-one-other.false
    (subst (λ (n : ℕ). take n c.args.one.now ≡ take n c.args.other.now) end c.loop-place.invariant)
