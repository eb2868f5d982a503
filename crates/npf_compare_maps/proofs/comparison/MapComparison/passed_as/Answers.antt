use Rattle.std.proofs.Common.{Ok, sym, ap, ◌∙◌, arith}
use Rattle.npf_steps.specs.declared.steps.Steps.{Steps}
use Rattle.npf_compare_maps.specs.Side.{IsTreatedAs, config_after}
use Rattle.npf_compare_maps.proofs.PassedLemmas.{all_asked, none_more, none_treated, nothing_found, otherwise_treated, some_treated}
use Rattle.npf_compare_maps.proofs.comparison.MapComparison.passed_as.Goals as goal
use Rattle.npf_compare_maps.proofs.comparison.MapComparison.passed_as.Goals.{then-is_same+in_ok-passed+in_ok-found+else-is_some, else-is_same}

pub returns-then-is_some-clause-found : goal.returns-then-is_some-clause-found
returns-then-is_some-clause-found c =
    some_treated c.args.self.now.after.config c.requires.is.after.ranked c.args.among.now c.args.effect.now c.loop-at.at c.in_ok-passed.passed c.in_ok-passed.ensures.decided
    (sym c.effect.ensures ∙ c.is_same.ensures.same c.if-is_same.true) c.in_ok-found.found c.in_ok-found.ensures.possible c.in_ok-found.ensures.found

pub loop-at-preserved : goal.loop-at-preserved
loop-at-preserved c =
    let config = c.args.self.now.after.config in
    let ranked = c.requires.is.after.ranked in
    let among = c.args.among.now in
    let effect = c.args.effect.now in
    let at = c.loop-at.at in
    let inv = c.loop-at.invariant in
    let P = IsTreatedAs (config_after c.args.self.now) among effect in
    elim c.if-is_same.branch [
      | then-is_same+in_ok-passed+in_ok-found+else-is_some w ↦ record {
        none = none_more config P at inv.none (none_treated config ranked among effect at w.in_ok-passed.passed w.in_ok-passed.ensures.decided
            (w.in_ok-found.ensures.none (ap Ok (nothing_found config P w.in_ok-found.found (sym w.is_some.ensures ∙ w.if-is_some.false)))));
        most = ap (λ (s : Steps). s.most) w.steps-is ∙ w.packet-then-is_same.ensures.most ∙ w.decided.ensures.most ∙ inv.most;
        rises = omega (arith, w.packet-then-is_same.ensures.rises, w.decided.ensures.rises, inv.rises, ap (λ (s : Steps). s.taken) w.steps-is);
      }
      | else-is_same w ↦ record {
        none = none_more config P at inv.none (otherwise_treated config ranked among effect at
            (λ same. c.is_same.ensures.other w.if-is_same.false (c.effect.ensures ∙ same)));
        most = ap (λ (s : Steps). s.most) w.steps-is ∙ inv.most;
        rises = omega (arith, inv.rises, ap (λ (s : Steps). s.taken) w.steps-is);
      }
    ]

pub returns-clause-none : goal.returns-clause-none
returns-clause-none c = λ none.
    all_asked c.args.self.now.after.config c.requires.is.after.ranked c.args.among.now c.args.effect.now c.requires.passing c.loop-at.at c.loop-at-test.false
    c.loop-at.invariant.none
