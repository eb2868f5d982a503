use Rattle.std.proofs.Common.{◌≡◌, ◌+◌, ◌++◌, ◌∷◌, [], List, get_or, take, length, refl, subst, sym, ap, ◌∙◌, arith}
use Rattle.std.specs.Option.{option_map}
use Rattle.std.proofs.lemmas.List.{take_all, take_more}
use Rattle.npf_ruleset.specs.Configuration.{configuration}
use Rattle.npf_ctl_check.specs.{declared.expectation.Expectation.Expectation, CheckText.{AreUnmetTold, counts_text}}
use Rattle.npf_ctl_check.proofs.ToldLemmas.{all_met, counts_one, none_fails, told_more, told_nothing}
use Rattle.npf_ctl_check.proofs.check.told_all.Goals as goal

pub loop-expectation-init : goal.loop-expectation-init
loop-expectation-init c = record {
  told = told_nothing c.args.file.now c.args.asked.now.ifaces.list (configuration c.args.asked.now.config) c.new.result.items c.new.ensures.items;
  few = omega arith;
  most = refl;
}

pub loop-expectation-preserved : goal.loop-expectation-preserved
loop-expectation-preserved c =
    let file = c.args.file.now in
    let ifaces = c.args.asked.now.ifaces.list in
    let config = configuration c.args.asked.now.config in
    let items = c.args.asked.now.expectations.items in
    let i = c.loop-expectation.expectation-index in
    let one = c.expectation-item.result in
    let value = c.as_slice-expectation-items.ensures.value in
    let here : one ≡ get_or items i one = c.expectation-item.is ∙ ap (λ (xs : List Expectation). get_or xs i one) value in
    let long = ap (λ (xs : List Expectation). length xs) value in
    let more : take (i + 1) items ≡ take i items ++ one ∷ [] = take_more items i one (omega (arith, c.loop-expectation-test.true, long))
    ∙ ap (λ (x : Expectation). take i items ++ x ∷ []) (sym here) in
    let told = option_map (λ line. line.items) c.in_ok-told.told in
    record {
      told = subst (λ (front : List Expectation). AreUnmetTold file ifaces config front c.add_told.new.answer.text.items c.add_told.new.answer.failed) (sym more)
          (told_more file ifaces config (take i items) one c.loop-expectation.answer.text.items c.add_told.new.answer.text.items c.loop-expectation.answer.failed
          c.add_told.new.answer.failed told c.loop-expectation.invariant.told c.in_ok-told.ensures.told c.in_ok-add_told.ensures.text c.in_ok-add_told.ensures.failed);
      few = omega (arith, c.loop-expectation.invariant.few, c.in_ok-add_told.ensures.failed, counts_one told);
      most = c.told_of.ensures.most ∙ c.loop-expectation.invariant.most;
    }

pub returns-clause-told : goal.returns-clause-told
returns-clause-told c =
    let file = c.args.file.now in
    let ifaces = c.args.asked.now.ifaces.list in
    let config = configuration c.args.asked.now.config in
    let items = c.args.asked.now.expectations.items in
    let i = c.loop-expectation.expectation-index in
    let text = c.loop-expectation.answer.text.items in
    let failed = c.loop-expectation.answer.failed in
    let long = ap (λ (xs : List Expectation). length xs) c.as_slice-expectation-items.ensures.value in
    let expected : c.len.result ≡ length items = omega (arith, c.len.ensures, c.as_slice-expectation-items.ensures.len, long) in
    let whole : AreUnmetTold file ifaces config items text failed = subst (λ (all : List Expectation). AreUnmetTold file ifaces config all text failed)
    (take_all i items (omega (arith, c.loop-expectation-test.false, long))) c.loop-expectation.invariant.told in
    record {
      lines = text;
      are = whole;
      told = c.in_ok-write_counts.ensures ∙ ap (λ n. text ++ counts_text n failed) expected;
      met = all_met file ifaces config items text failed whole;
      unmet = none_fails file ifaces config items text failed whole;
    }
