use Rattle.std.proofs.Common.{◌≡◌, ◌+◌, ◌++◌, ◌∷◌, [], ℕ, Ok, Vec, Global, length, refl, sym, subst, ap, ◌∙◌, arith}
use Rattle.std.proofs.lemmas.List.Sorted.{IsNonDecreasingBy-from_sort}
use Rattle.std.proofs.lemmas.Option.{slice_get_read}
use Rattle.npf_precedence.specs.declared.entry.RuleEntry.{RuleEntry}
use Rattle.npf_judge.specs.Order.{entry_place}
use Rattle.npf_judge.specs.Place.{IsRulePlace}
use Rattle.npf_lint.specs.Order.{AreNamedOnce, AreOthers}
use Rattle.npf_lint.proofs.OnceLemmas.{named_more, named_rise, named_same, none_named}
use Rattle.npf_lint.proofs.OrderLemmas.{no_others, none_there, others_found, others_same, others_sorted}
use Rattle.npf_lint.proofs.order.RuleOrder.others.Goals as goal
use Rattle.npf_lint.proofs.order.RuleOrder.others.Goals.{then-is_some+in_ok-push, else-is_some}

pub loop-before-init : goal.loop-before-init
loop-before-init c = record {
  others = subst (AreOthers c.args.self.now.packets.tables.now c.args.self.now.order.now c.args.at 0) (sym c.new-others.ensures.items)
      (no_others c.args.self.now.packets.tables.now c.args.self.now.order.now c.args.at);
  once = subst (AreNamedOnce c.args.self.now.order.now 0) (sym c.new-others.ensures.items) (none_named c.args.self.now.order.now 0);
  most = refl;
  rises = omega arith;
}

pub loop-before-preserved : goal.loop-before-preserved
loop-before-preserved c =
    let tables = c.args.self.now.packets.tables.now in
    let order = c.args.self.now.order.now in
    let before = c.loop-before.before in
    let others = c.loop-before.others.items in
    let found = c.in_ok-decided.field-0 in
    let inv = c.loop-before.invariant in
    let most = c.decided.ensures.most ∙ inv.most in
    elim c.if-is_some.branch [
      | then-is_some+in_ok-push w ↦
          let place = w.index-self-before.result.place in
          let here : IsRulePlace order before place =
          ap entry_place (slice_get_read order (length order) before w.index-self-before.result refl (omega (arith, c.loop-before-test.true, c.requires.within)) w.index-self-before.is) in
          let items : c.if-is_some.others.items ≡ others ++ place ∷ [] =
          ap (λ (v : Vec ℕ Global). v.items) w.others-is ∙ w.in_ok-push.ensures.items ∙ ap (λ (e : RuleEntry). others ++ e.place ∷ []) (sym w.index-self-before.is) in
          record {
            others = subst (AreOthers tables order c.args.at (before + 1)) (sym items)
                (others_found tables order c.args.at before c.args.matched.now others c.requires.matched inv.others place found (sym c.is_some.ensures ∙ w.if-is_some.true) here
                c.in_ok-decided.ensures.possible c.in_ok-decided.ensures.found);
            once = subst (AreNamedOnce order (before + 1)) (sym items) (named_more order before others inv.once c.args.self.now.model.now place c.requires.places here);
            most = most;
            rises = omega (arith, c.decided.ensures.rises, inv.rises);
          }
      | else-is_some w ↦ record {
        others = subst (AreOthers tables order c.args.at (before + 1)) (sym (ap (λ (v : Vec ℕ Global). v.items) w.others-is))
            (others_same tables order c.args.at before c.args.matched.now others c.requires.matched inv.others
            (c.in_ok-decided.ensures.none (ap Ok (none_there found (sym c.is_some.ensures ∙ w.if-is_some.false)))));
        once = subst (AreNamedOnce order (before + 1)) (sym (ap (λ (v : Vec ℕ Global). v.items) w.others-is)) (named_same order before others inv.once);
        most = most;
        rises = omega (arith, c.decided.ensures.rises, inv.rises);
      }
    ]

pub returns-clause-others : goal.returns-clause-others
returns-clause-others c =
    let same : c.loop-before.before ≡ c.args.at = omega (arith, c.loop-before.auto.before-end, c.loop-before-test.false) in
    subst (λ n. AreOthers c.args.self.now.packets.tables.now c.args.self.now.order.now c.args.at n c.sort_unstable.new.self.items) same
    (others_sorted c.args.self.now.packets.tables.now c.args.self.now.order.now c.args.at c.loop-before.before c.loop-before.others.items c.sort_unstable.new.self.items
    c.sort_unstable.ensures.permutation c.loop-before.invariant.others)

pub returns-clause-ascending : goal.returns-clause-ascending
returns-clause-ascending c =
    named_rise c.args.self.now.order.now c.loop-before.before c.loop-before.others.items c.loop-before.invariant.once c.sort_unstable.new.self.items
    c.sort_unstable.ensures.permutation (IsNonDecreasingBy-from_sort (λ n. n) c.sort_unstable.new.self.items c.sort_unstable.ensures.sorted)
