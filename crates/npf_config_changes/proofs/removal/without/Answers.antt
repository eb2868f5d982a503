use Rattle.std.proofs.{Common.{◌≡◌, ◌≤◌, length, sym, ap, subst, ◌∙◌}, lemmas.Result.IfOk-weaker}
use Rattle.npf_model.specs.{declared.model.Model.Model, Configuration.Configuration, Verdict.all_rules}
use Rattle.npf_ruleset.specs.Configuration.{configuration}
use Rattle.npf_config.specs.Loaded.{HasNextIds}
use Rattle.npf_config_changes.proofs.NextLemmas.{all_room, kept_serve, next_buildable, next_limits, no_more_instructions, no_more_rules, same_ids, served_none}
use Rattle.npf_config_changes.proofs.removal.without.Goals as goal

pub changed-requires-clause-served : goal.changed-requires-clause-served
changed-requires-clause-served c = served_none c.args.change c.requires

pub changed-requires-clause-room : goal.changed-requires-clause-room
changed-requires-clause-room c = all_room c.args.change c.requires c.args.config.now.model.groups

pub with_model-requires-clause-buildable : goal.with_model-requires-clause-buildable
with_model-requires-clause-buildable c =
    let config = c.args.config.now in
    let model = c.in_ok-model.model in
    let kept = c.in_ok-model.programs.items in
    let keeps = c.in_ok-model.ensures.keeps in
    next_buildable model kept (kept_serve config c.args.change (all_rules model.groups) kept keeps)
    (no_more_rules config c.args.change (all_rules model.groups) kept keeps c.requires)
    (subst (λ (m : Model). length m.maps ≤ 256) (sym c.in_ok-model.ensures.model) config.buildable.maps)

pub with_model-requires-clause-limits : goal.with_model-requires-clause-limits
with_model-requires-clause-limits c =
    let config = c.args.config.now in
    let model = c.in_ok-model.model in
    let kept = c.in_ok-model.programs.items in
    let keeps = c.in_ok-model.ensures.keeps in
    next_limits model kept (kept_serve config c.args.change (all_rules model.groups) kept keeps)
    (no_more_instructions config c.args.change (all_rules model.groups) kept keeps c.requires)

pub with_model-requires-clause-tables : goal.with_model-requires-clause-tables
with_model-requires-clause-tables c = ap (λ (m : Model). m.tables) c.in_ok-model.ensures.model

pub returns-clause-is : goal.returns-clause-is
returns-clause-is c =
    let config = configuration c.args.config.now in
    IfOk-weaker c.with_model.result _ _ (λ next is. is ∙ ap (λ (m : Model). record config { model = m }) c.in_ok-model.ensures.model) c.with_model.ensures.is

pub returns-clause-ids : goal.returns-clause-ids
returns-clause-ids c = λ most within.
    let stay = same_ids c.args.change c.requires c.args.name.now most c.args.config.now.model within in
    IfOk-weaker c.with_model.result _ _ (λ next is.
    subst (HasNextIds most) (sym (ap (λ (config : Configuration). config.model) is ∙ c.in_ok-model.ensures.model)) stay) c.with_model.ensures.is
