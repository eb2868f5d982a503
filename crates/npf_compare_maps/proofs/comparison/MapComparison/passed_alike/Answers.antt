use Rattle.std.proofs.Common.{Ok, IfSome, sym, subst, ap, ◌∙◌, arith}
use Rattle.npf_steps.specs.declared.steps.Steps.{Steps}
use Rattle.npf_compare_maps.specs.MapDifference.{IsPassing}
use Rattle.npf_compare_maps.specs.Side.{IsAlikeAmong, config_after, config_before}
use Rattle.npf_compare_maps.proofs.PassedLemmas.{all_passed, blocked_alike, none_alike, none_more, nothing_else, some_alike}
use Rattle.npf_compare_maps.proofs.comparison.MapComparison.passed_alike.Goals as goal
use Rattle.npf_compare_maps.proofs.comparison.MapComparison.passed_alike.Goals.{then-is_passing+in_ok-passed+in_ok-packet+in_default, else-is_passing}

pub returns-in-Some-clause-found : goal.returns-in-Some-clause-found
returns-in-Some-clause-found c =
    let comparison = c.args.self.now in
    subst (λ o. IfSome o (IsAlikeAmong (config_before comparison) (config_after comparison) c.args.among.now)) c.in-Some.is
    (some_alike comparison c.requires.is.before.ranked c.args.among.now c.loop-at.at c.effect-effect.result c.in_ok-passed.passed c.effect-effect.ensures
    c.in_ok-passed.ensures.decided (c.is_passing.ensures.passing c.if-is_passing.true) c.in_ok-packet.field-0 c.in_ok-packet.ensures.found)

pub loop-at-preserved : goal.loop-at-preserved
loop-at-preserved c =
    let comparison = c.args.self.now in
    let config = comparison.before.config in
    let ranked = c.requires.is.before.ranked in
    let among = c.args.among.now in
    let at = c.loop-at.at in
    let inv = c.loop-at.invariant in
    let P = IsAlikeAmong (config_before comparison) (config_after comparison) among in
    elim c.if-is_passing.branch [
      | then-is_passing+in_ok-passed+in_ok-packet+in_default w ↦ record {
        none = none_more config P at inv.none (none_alike comparison ranked among at c.effect-effect.result w.in_ok-passed.passed c.effect-effect.ensures
            w.in_ok-passed.ensures.decided (w.in_ok-packet.ensures.none (ap Ok (nothing_else config P w.in_ok-packet.field-0 w.in_default.not-Some))));
        most = ap (λ (s : Steps). s.most) w.steps-is ∙ w.passed_as.ensures.most ∙ w.decided.ensures.most ∙ inv.most;
        rises = omega (arith, w.passed_as.ensures.rises, w.decided.ensures.rises, inv.rises, ap (λ (s : Steps). s.taken) w.steps-is);
      }
      | else-is_passing w ↦ record {
        none = none_more config P at inv.none (blocked_alike comparison ranked among at
            (λ passes. c.is_passing.ensures.other w.if-is_passing.false (subst IsPassing (sym c.effect-effect.ensures) passes)));
        most = ap (λ (s : Steps). s.most) w.steps-is ∙ inv.most;
        rises = omega (arith, inv.rises, ap (λ (s : Steps). s.taken) w.steps-is);
      }
    ]

pub returns-clause-none : goal.returns-clause-none
returns-clause-none c = λ none.
    all_passed c.args.self.now c.requires.is.before.ranked c.args.among.now c.loop-at.at c.loop-at-test.false c.loop-at.invariant.none
