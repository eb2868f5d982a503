use Rattle.std.proofs.Common.{◌+◌, ◌<◌, Bool, List, ℕ, false, length, slice_index_or, sym, subst, ap, ◌∙◌}
use Rattle.std.specs.List.{All, Contains}
use Rattle.npf_compare.proofs.AskedLemmas.{asked_whole, fellows_below, rules_below}
use Rattle.npf_compare.proofs.both.BothOrders.asked.Goals as goal

pub marks-requires : goal.marks-requires
marks-requires c =
    let old = c.args.self.now.old in
    subst (All (λ place. place < length old.order.now + 1)) (sym c.as_slice.ensures.value)
    (rules_below old c.args.self.now.new c.in_ok-found.found.rules.items c.in_ok-found.found.fellows.items c.in_ok-found.ensures)

pub marks-requires-2 : goal.marks-requires-2
marks-requires-2 c =
    let new = c.args.self.now.new in
    subst (All (λ place. place < length new.order.now + 1)) (sym c.as_slice-2.ensures.value)
    (fellows_below c.args.self.now.old new c.in_ok-found.found.rules.items c.in_ok-found.found.fellows.items c.in_ok-found.ensures)

pub returns : goal.returns
returns c =
    asked_whole c.args.self.now.old c.args.self.now.new c.in_ok-found.found.rules.items c.in_ok-found.found.fellows.items c.in_ok-found.ensures
    (record { common = c.in_ok-common.common; all = c.in_ok-all.all; rest = c.in_ok-rest.rest }) c.as_slice-3.result.now c.as_slice-4.result.now c.requires.count
    (λ k is. subst (λ (ns : List ℕ). Contains ns k) c.as_slice.ensures.value (c.in_ok-common.ensures k is))
    (λ k is. subst (λ (ns : List ℕ). Contains ns k) c.as_slice-2.ensures.value
    (c.in_ok-fellows.ensures k (sym (ap (λ (ms : List Bool). slice_index_or ms k false) c.as_slice-3.ensures.value) ∙ is)))
    (λ k is. c.in_ok-nothing.ensures k (sym (ap (λ (ms : List Bool). slice_index_or ms k false) c.as_slice-4.ensures.value) ∙ is))
    c.in_ok-rest.ensures.within c.in_ok-rest.ensures.rising c.in_ok-rest.ensures.whole c.in_ok-all.ensures.within c.in_ok-all.ensures.rising c.in_ok-all.ensures.whole
