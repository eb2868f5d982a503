use Rattle.std.proofs.Common.{◌≡◌, ◌+◌, ◌++◌, ◌∷◌, [], ℕ, Ok, Vec, Global, length, refl, sym, subst, ap, ◌∙◌, arith}
use Rattle.std.proofs.lemmas.List.Sorted.{IsNonDecreasingBy-from_sort}
use Rattle.std.proofs.lemmas.Option.{slice_get_read}
use Rattle.npf_precedence.specs.declared.entry.RuleEntry.{RuleEntry}
use Rattle.npf_judge.specs.Order.{entry_place}
use Rattle.npf_judge.specs.Place.{IsRulePlace}
use Rattle.npf_lint.specs.Order.{AreNamedOnce, AreSuccessors, rules_behind}
use Rattle.npf_lint.proofs.OnceLemmas.{named_more, named_rise, named_same, none_named}
use Rattle.npf_lint.proofs.OrderLemmas.{none_there}
use Rattle.npf_lint.proofs.ReachedLemmas.{behind_length, left_more, left_same, left_sorted, none_are_left}
use Rattle.npf_lint.proofs.order.RuleOrder.left_to.Goals as goal
use Rattle.npf_lint.proofs.order.RuleOrder.left_to.Goals.{then-is_some+in_ok-push, else-is_some}

pub loop-next-init : goal.loop-next-init
loop-next-init c = record {
  left = subst (AreSuccessors c.args.self.now.packets.tables.now c.args.self.now.order.now c.args.at 0) (sym c.new-others.ensures.items)
      (none_are_left c.args.self.now.packets.tables.now c.args.self.now.order.now c.args.at);
  once = subst (AreNamedOnce c.args.self.now.order.now (c.args.at + 1 + 0)) (sym c.new-others.ensures.items) (none_named c.args.self.now.order.now (c.args.at + 1 + 0));
  most = refl;
  rises = omega arith;
}

pub loop-next-preserved : goal.loop-next-preserved
loop-next-preserved c =
    let tables = c.args.self.now.packets.tables.now in
    let order = c.args.self.now.order.now in
    let next = c.loop-next.next in
    let others = c.loop-next.others.items in
    let found = c.in_ok-left.field-0 in
    let inv = c.loop-next.invariant in
    let most = c.left.ensures.most ∙ inv.most in
    let at = c.args.at + 1 + next in
    let behind : at + 1 ≡ c.args.at + 1 + (next + 1) = omega arith in
    elim c.if-is_some.branch [
      | then-is_some+in_ok-push w ↦
          let place = w.index-self-at.result.place in
          let here : IsRulePlace order (c.args.at + 1 + next) place =
          ap entry_place (slice_get_read order (length order) (c.args.at + 1 + next) w.index-self-at.result refl (omega (arith, c.loop-next-test.true, c.requires.within)) w.index-self-at.is) in
          let items : c.if-is_some.others.items ≡ others ++ place ∷ [] =
          ap (λ (v : Vec ℕ Global). v.items) w.others-is ∙ w.in_ok-push.ensures.items ∙ ap (λ (e : RuleEntry). others ++ e.place ∷ []) (sym w.index-self-at.is) in
          record {
            left = subst (AreSuccessors tables order c.args.at (next + 1)) (sym items)
                (left_more tables order c.args.at next others inv.left place found (sym c.is_some.ensures ∙ w.if-is_some.true) here c.in_ok-left.ensures.found);
            once = subst (λ n. AreNamedOnce order n c.if-is_some.others.items) behind
                (subst (AreNamedOnce order (at + 1)) (sym items) (named_more order at others inv.once c.args.self.now.model.now place c.requires.places here));
            most = most;
            rises = omega (arith, c.left.ensures.rises, inv.rises);
          }
      | else-is_some w ↦ record {
        left = subst (AreSuccessors tables order c.args.at (next + 1)) (sym (ap (λ (v : Vec ℕ Global). v.items) w.others-is))
            (left_same tables order c.args.at next others inv.left
            (c.in_ok-left.ensures.none (ap Ok (none_there found (sym c.is_some.ensures ∙ w.if-is_some.false)))));
        once = subst (λ n. AreNamedOnce order n c.if-is_some.others.items) behind
            (subst (AreNamedOnce order (at + 1)) (sym (ap (λ (v : Vec ℕ Global). v.items) w.others-is)) (named_same order at others inv.once));
        most = most;
        rises = omega (arith, c.left.ensures.rises, inv.rises);
      }
    ]

pub returns-clause-left : goal.returns-clause-left
returns-clause-left c =
    let order = c.args.self.now.order.now in
    let same : c.loop-next.next ≡ length (rules_behind order c.args.at) =
    omega (arith, c.loop-next.auto.next-end, c.loop-next-test.false, behind_length order c.args.at) in
    subst (λ n. AreSuccessors c.args.self.now.packets.tables.now order c.args.at n c.sort_unstable.new.self.items) same
    (left_sorted c.args.self.now.packets.tables.now order c.args.at c.loop-next.next c.loop-next.others.items c.sort_unstable.new.self.items
    c.sort_unstable.ensures.permutation c.loop-next.invariant.left)

pub returns-clause-ascending : goal.returns-clause-ascending
returns-clause-ascending c =
    named_rise c.args.self.now.order.now (c.args.at + 1 + c.loop-next.next) c.loop-next.others.items c.loop-next.invariant.once c.sort_unstable.new.self.items
    c.sort_unstable.ensures.permutation (IsNonDecreasingBy-from_sort (λ n. n) c.sort_unstable.new.self.items c.sort_unstable.ensures.sorted)
