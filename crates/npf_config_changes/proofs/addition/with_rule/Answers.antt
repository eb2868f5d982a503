use Rattle.std.proofs.Common.{◌≤◌, rules, sym, ap, subst, ◌∙◌, arith}
use Rattle.npf_faults.specs.declared.fault.Excess.TheVariants.{Weight}
use Rattle.npf_bpfgen.specs.RuleWeight.{weight_of}
use Rattle.npf_config_changes.specs.{Additions.KeepsLimits, Rulesets.{model_with_ruleset, with_rule_added}, Told.{EndsUnlessMemory, too_many}}
use Rattle.npf_config_changes.proofs.AdditionLemmas.{light_err, light_ok, serves_as, too_heavy}
use Rattle.npf_config_changes.proofs.addition.with_rule.Goals as goal

pub returns-then-weight-clause-err : goal.returns-then-weight-clause-err
returns-then-weight-clause-err c =
    let rule = c.args.rule.now in
    let next = model_with_ruleset c.args.name.now (with_rule_added rule) c.args.config.now.model in
    subst (EndsUnlessMemory (KeepsLimits c.args.span rule next)) (sym (c.past-heavy.ensures ∙ ap (too_many c.args.span Weight) c.weight-weight.ensures))
    (too_heavy c.args.span next rule (let over = c.if-weight.true in let weighs = c.weight-weight.ensures in omega arith))

pub with_program-requires-clause-served : goal.with_program-requires-clause-served
with_program-requires-clause-served c =
    let light : weight_of c.args.rule.now ≤ 4096 = (let within = c.if-weight.false in let weighs = c.weight-weight.ensures in omega arith) in
    serves_as c.args.rule.now c.in-Ok.program (record {
      value = c.in-Ok.ensures.value;
      valid = ∣ c.in-Ok.ensures.valid ∣₁;
      count = c.in-Ok.ensures.count;
      size = c.in-Ok.ensures.size;
    }) light (search rules) c.requires.tables

pub returns-in-Ok-clause-limits : goal.returns-in-Ok-clause-limits
returns-in-Ok-clause-limits c =
    let light : weight_of c.args.rule.now ≤ 4096 = (let within = c.if-weight.false in let weighs = c.weight-weight.ensures in omega arith) in
    light_ok c.args.span c.args.rule.now light c.with_program.result c.with_program.ensures.limits

pub returns-in-Ok-clause-err : goal.returns-in-Ok-clause-err
returns-in-Ok-clause-err c =
    let light : weight_of c.args.rule.now ≤ 4096 = (let within = c.if-weight.false in let weighs = c.weight-weight.ensures in omega arith) in
    light_err c.args.span c.args.rule.now light (model_with_ruleset c.args.name.now (with_rule_added c.args.rule.now) c.args.config.now.model) c.with_program.result c.with_program.ensures.err
