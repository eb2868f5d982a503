use Rattle.std.proofs.Common.{◌≡◌, ◌≤◌, ◌+◌, Ok, Err, length, rules, sym, ap, subst, ◌∙◌}
use Rattle.npf_model.specs.{declared.model.Model.Model, Configuration.Configuration, Verdict.all_rules}
use Rattle.npf_ruleset.specs.{Configuration.configuration, Flat.instructions}
use Rattle.npf_config.specs.Loaded.{HasNextIds}
use Rattle.npf_config_changes.specs.{declared.change.RulesChange.{RulesChange, TheVariants.Added}, Additions.KeepsCounts, Told.EndsUnlessMemory}
use Rattle.npf_config_changes.proofs.{AdditionLemmas.added_ids, NextLemmas.{kept_serve, next_buildable, next_limits}}
use Rattle.npf_config_changes.proofs.addition.with_program.Goals as goal

pub keep_counts-requires-clause-serve : goal.keep_counts-requires-clause-serve
keep_counts-requires-clause-serve c =
    let change : RulesChange = Added c.args.rule c.args.program in
    let model = c.in_ok-model.model in
    rw c.deref.ensures.value (kept_serve c.args.config.now change (all_rules model.groups) c.in_ok-model.programs.items c.in_ok-model.ensures.keeps)

pub keep_counts-requires-clause-maps : goal.keep_counts-requires-clause-maps
keep_counts-requires-clause-maps c = subst (λ (m : Model). length m.maps ≤ 256) (sym c.in_ok-model.ensures.model) c.args.config.now.buildable.maps

pub returns-in_err-keep_counts-clause-err : goal.returns-in_err-keep_counts-clause-err
returns-in_err-keep_counts-clause-err c =
    let fault = c.in_err-keep_counts.field-0.0 in
    let same : c.from_residual-in_err-keep_counts.result ≡ Err fault = search rules in
    let ends = subst (λ (m : Model). EndsUnlessMemory (KeepsCounts c.args.span m) fault) c.in_ok-model.ensures.model c.in_err-keep_counts.ensures.passed in
    rw same ends

pub with_model-requires-clause-buildable : goal.with_model-requires-clause-buildable
with_model-requires-clause-buildable c =
    let change : RulesChange = Added c.args.rule c.args.program in
    let model = c.in_ok-model.model in
    let kept = c.in_ok-model.programs.items in
    next_buildable model kept (kept_serve c.args.config.now change (all_rules model.groups) kept c.in_ok-model.ensures.keeps) c.in_ok-keep_counts.ensures.few
    (subst (λ (m : Model). length m.maps ≤ 256) (sym c.in_ok-model.ensures.model) c.args.config.now.buildable.maps)

pub with_model-requires-clause-limits : goal.with_model-requires-clause-limits
with_model-requires-clause-limits c =
    let change : RulesChange = Added c.args.rule c.args.program in
    let model = c.in_ok-model.model in
    let kept = c.in_ok-model.programs.items in
    next_limits model kept (kept_serve c.args.config.now change (all_rules model.groups) kept c.in_ok-model.ensures.keeps)
    (subst (λ all. instructions all ≤ 524288) c.deref.ensures.value c.in_ok-keep_counts.ensures.short)

pub with_model-requires-clause-tables : goal.with_model-requires-clause-tables
with_model-requires-clause-tables c = ap (λ (m : Model). m.tables) c.in_ok-model.ensures.model

pub returns-clause-is : goal.returns-clause-is
returns-clause-is c =
    let config = configuration c.args.config.now in
    c.in_ok-with_model.ensures.is ∙ ap (λ (m : Model). record config { model = m }) c.in_ok-model.ensures.model

pub returns-clause-limits : goal.returns-clause-limits
returns-clause-limits c =
    let model = ap (λ (config : Configuration). config.model) c.in_ok-with_model.ensures.is in
    subst (λ (m : Model). KeepsCounts c.args.span m (Ok tt)) (sym model) c.in_ok-keep_counts.ensures.kept

pub returns-clause-ids : goal.returns-clause-ids
returns-clause-ids c = λ most within.
    let model = ap (λ (config : Configuration). config.model) c.in_ok-with_model.ensures.is ∙ c.in_ok-model.ensures.model in
    subst (HasNextIds (most + 1)) (sym model) (added_ids c.args.rule.now c.args.name.now most c.args.config.now.model within)
