use Rattle.std.proofs.Common.{length, ap, subst, sym, Err, arith}
use Rattle.npf_model.specs.Verdict.{all_rules}
use Rattle.npf_config.specs.Stage.{IfConf}
use Rattle.npf_config_changes.specs.{declared.fault.ChangeFault.TheVariants.Conf, Additions.KeepsCounts}
use Rattle.npf_config_reload.proofs.LayoutLemmas.{elements_over, rules_over}
use Rattle.npf_config_reload.proofs.limit.keep_counts.Goals as goal

pub returns-then-rules-gt-MAX_RULES-clause-passed : goal.returns-then-rules-gt-MAX_RULES-clause-passed
returns-then-rules-gt-MAX_RULES-clause-passed c =
    let model = c.args.model.now in
    let groups = ap (λ groups. length (all_rules groups)) c.as_slice.ensures in
    let count = c.rule_count-rules.ensures in
    let over = c.if-rules-gt-MAX_RULES.true in
    subst (IfConf (λ fault. KeepsCounts c.args.end model (Err (Conf fault)))) (sym c.past-many_rules.ensures) (rules_over c.args.end model (omega arith))

pub returns-then-elements-clause-passed : goal.returns-then-elements-clause-passed
returns-then-elements-clause-passed c =
    let model = c.args.model.now in
    let groups = ap (λ groups. length (all_rules groups)) c.as_slice.ensures in
    let count = c.rule_count-rules.ensures in
    let within = c.if-rules-gt-MAX_RULES.false in
    let elements = c.model_elements-elements.ensures in
    let over = c.if-elements.true in
    subst (IfConf (λ fault. KeepsCounts c.args.end model (Err (Conf fault)))) (sym c.past-many_elements.ensures) (elements_over c.args.end model (omega arith) (omega arith))
