use Rattle.std.proofs.Common.{◌≡◌, ◌+◌, ℕ, List, length, slice_index, inl, inr, sym, subst, ap, ◌∙◌, arith}
use Rattle.std.specs.List.{Contains}
use Rattle.std.proofs.lemmas.Bool.{cases_eq}
use Rattle.npf_compare.specs.Told.{AreToldBefore, IsToldOrAlike, asked_of}
use Rattle.npf_compare.proofs.ToldLemmas.{settled_all}
use Rattle.npf_compare.proofs.both.BothOrders.differences.Goals as goal

pub loop-place-preserved : goal.loop-place-preserved
loop-place-preserved c =
    let old = c.args.self.now.old in
    let new = c.args.self.now.new in
    let asked = c.args.asked.now in
    let upto = c.loop-place.place in
    let after = c.add.new.differences.items in
    record {
      told = c.in_ok-add.ensures.told;
      settled = λ place other below there. elim (cases_eq place upto) [
        | inl same ↦
            subst (λ n. IsToldOrAlike old new after n other) (sym same)
            (settled_all old new c.of-others.result.now after upto c.in_ok-add.ensures.settled other
            (subst (λ (ns : List ℕ). Contains ns other) (ap (λ n. asked_of asked (slice_index old.at.now n)) same ∙ sym c.of-others.ensures) there))
        | inr next ↦ c.in_ok-add.ensures.kept place other (c.loop-place.invariant.settled place other (omega (arith, below, next)) there)
      ];
      most = c.in_ok-add.ensures.most ∙ c.loop-place.invariant.most;
      rises = omega (arith, c.in_ok-add.ensures.rises, c.loop-place.invariant.rises);
    }

pub returns-clause-told : goal.returns-clause-told
returns-clause-told c =
    let old = c.args.self.now.old in
    let end : c.loop-place.place ≡ length old.order.now + 1 =
    omega (arith, c.loop-place-test.false, c.loop-place.auto.place-end, c.requires.old.places.count) in
    record {
      told = subst (λ n. AreToldBefore old c.args.self.now.new n c.loop-place.differences.items) end c.loop-place.invariant.told;
      settled = λ place other within there. c.loop-place.invariant.settled place other (omega (arith, within, end)) there;
    }
