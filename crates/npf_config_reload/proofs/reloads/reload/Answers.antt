use Rattle.std.proofs.Common.{ap, ◌∙◌}
use Rattle.npf_model.specs.{declared.model.Model.Model, Verdict.all_rules}
use Rattle.npf_ruleset.specs.Configuration.{configuration}
use Rattle.npf_config_reload.{specs.Taken.model_taken, proofs.CompileLemmas.{are_compilable, are_light, configs_compile}}
use Rattle.npf_config_reload.proofs.ReloadLemmas.{all_ids, all_refuse, all_take}
use Rattle.npf_config_reload.proofs.reloads.reload.Goals as goal

pub lay_out-requires-clause-compilable : goal.lay_out-requires-clause-compilable
lay_out-requires-clause-compilable g c =
    let is = c.in_ok-model.ensures ∙ ap (λ (m : Model). model_taken m c.model-2.result.now) c.model.ensures ∙ ap (model_taken c.args.old.now.model) c.model-2.ensures in
    are_compilable (all_rules c.in_ok-model.model.groups) (configs_compile c.args.old.now c.in_ok-own.own c.in_ok-model.model is)

pub lay_out-requires-clause-light : goal.lay_out-requires-clause-light
lay_out-requires-clause-light g c =
    let is = c.in_ok-model.ensures ∙ ap (λ (m : Model). model_taken m c.model-2.result.now) c.model.ensures ∙ ap (model_taken c.args.old.now.model) c.model-2.ensures in
    are_light (all_rules c.in_ok-model.model.groups) (configs_compile c.args.old.now c.in_ok-own.own c.in_ok-model.model is)

pub returns-clause-taken : goal.returns-clause-taken
returns-clause-taken g c =
    let is = c.in_ok-model.ensures ∙ ap (λ (m : Model). model_taken m c.model-2.result.now) c.model.ensures ∙ ap (model_taken c.args.old.now.model) c.model-2.ensures in
    all_take c.args.ifaces.now.list c.args.text.now (configuration c.args.old.now) (g.F.Files.moment c.args.files.now) (g.F.Files.moment c.load_placed.new.files)
    c.in_ok-own.own c.in_ok-own.end c.in_ok-own.ensures.first c.in_ok-model.model is c.lay_out.result c.lay_out.ensures.is c.lay_out.ensures.kept

pub returns-clause-ids : goal.returns-clause-ids
returns-clause-ids g c = λ most one was.
    let is = c.in_ok-model.ensures ∙ ap (λ (m : Model). model_taken m c.model-2.result.now) c.model.ensures ∙ ap (model_taken c.args.old.now.model) c.model-2.ensures in
    all_ids c.args.old.now c.in_ok-own.own c.in_ok-model.model is most one was c.in_ok-own.ensures.ids c.lay_out.result c.lay_out.ensures.is

pub returns-clause-refuses : goal.returns-clause-refuses
returns-clause-refuses g c =
    let is = c.in_ok-model.ensures ∙ ap (λ (m : Model). model_taken m c.model-2.result.now) c.model.ensures ∙ ap (model_taken c.args.old.now.model) c.model-2.ensures in
    all_refuse c.args.ifaces.now.list c.args.text.now (configuration c.args.old.now) (g.F.Files.moment c.args.files.now) (g.F.Files.moment c.load_placed.new.files)
    c.in_ok-own.own c.in_ok-own.end c.in_ok-own.ensures.first c.in_ok-model.model is c.in_ok-own.ensures.faultless c.lay_out.result c.lay_out.ensures.passed
