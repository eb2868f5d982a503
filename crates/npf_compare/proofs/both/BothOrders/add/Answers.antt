use Rattle.std.proofs.Common.{◌≡◌, ◌+◌, ◌++◌, ◌∷◌, [], ℕ, Option, Vec, Global, Ok, slice_index, inl, refl, sym, subst, ap, ◌∙◌, arith}
use Rattle.npf_compare.specs.declared.difference.RuleDifference.{RuleDifference}
use Rattle.npf_compare.specs.Side.{AreUnlike, place_in}
use Rattle.npf_compare.specs.Told.{AreToldUpto}
use Rattle.npf_compare.proofs.ToldLemmas.{told_begins, told_ends, told_more, told_same}
use Rattle.npf_compare.proofs.both.BothOrders.add.Goals as goal
use Rattle.npf_compare.proofs.both.BothOrders.add.Goals.{in-Some+in_ok-push, in_default}

pub loop-other-init : goal.loop-other-init
loop-other-init c = record {
  told = told_begins c.args.self.now.old c.args.self.now.new c.args.place c.args.others.now c.args.differences.now.items c.requires.place c.requires.told;
  most = refl;
  rises = omega arith;
}

pub loop-other-preserved : goal.loop-other-preserved
loop-other-preserved c =
    let old = c.args.self.now.old in
    let new = c.args.self.now.new in
    let place = c.args.place in
    let others = c.args.others.now in
    let upto = c.loop-other.other-index in
    let other = slice_index others upto in
    let before = c.args.differences.now.items in
    let after = c.loop-other.differences.items in
    let inv = c.loop-other.invariant in
    let most = c.in_ok-found.ensures.most ∙ inv.most in
    elim c.match-found.branch [
      | in-Some+in_ok-push w ↦
          let packet = w.in-Some.packet in
          let make : Option ℕ → Option ℕ → RuleDifference = λ one two. record { old = one; new = two; packet = packet } in
          let items : c.match-found.differences.items ≡ after ++ make (place_in old place) (place_in new other) ∷ [] =
          ap (λ (v : Vec RuleDifference Global). v.items) w.differences-is ∙ w.in_ok-push.ensures.items
          ∙ ap (λ one. after ++ make one w.rule-in-Some.result ∷ []) w.rule.ensures
          ∙ ap (λ two. after ++ make (place_in old place) two ∷ []) w.rule-in-Some.ensures in
          let unlike : AreUnlike old new (slice_index old.at.now place) (slice_index new.at.now other) packet = rw w.in-Some.is at c.in_ok-found.ensures.found in
          record {
            told = subst (AreToldUpto old new place others (upto + 1) before) (sym items)
                (told_more old new place others upto before after inv.told packet c.loop-other-test.true c.requires.place c.requires.within c.requires.rising unlike);
            most = most;
            rises = omega (arith, c.in_ok-found.ensures.rises, inv.rises);
          }
      | in_default w ↦
          let items : c.match-found.differences.items ≡ after = ap (λ (v : Vec RuleDifference Global). v.items) w.differences-is in
          record {
            told = subst (AreToldUpto old new place others (upto + 1) before) (sym items)
                (told_same old new place others upto before after inv.told (λ packet first. inl (c.in_ok-found.ensures.none (ap Ok w.in_default.is) packet first)));
            most = most;
            rises = omega (arith, c.in_ok-found.ensures.rises, inv.rises);
          }
    ]

pub returns-clause-told : goal.returns-clause-told
returns-clause-told c =
    told_ends c.args.self.now.old c.args.self.now.new c.args.place c.args.others.now c.loop-other.other-index c.args.differences.now.items c.loop-other.differences.items
    c.loop-other.invariant.told

pub returns-clause-kept : goal.returns-clause-kept
returns-clause-kept c = c.loop-other.invariant.told.kept

pub returns-clause-settled : goal.returns-clause-settled
returns-clause-settled c = λ k low. c.loop-other.invariant.told.settled k (omega (arith, low, c.loop-other-test.false)) low
