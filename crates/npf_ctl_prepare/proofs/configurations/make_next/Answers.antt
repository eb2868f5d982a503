use Rattle.std.proofs.Common.{List, refl, subst, sym, ℕ}
use Rattle.npf_types.specs.Stages.{◌told_by◌}
use Rattle.npf_model.specs.declared.table.Kind.{Kind}
use Rattle.npf_ruleset.specs.Configuration.{configuration}
use Rattle.npf_config.specs.Tables.{table_kinds}
use Rattle.npf_config_changes.specs.{Changes.{FlushesRules, RemovesRule}, Entries.{AddsEntry, RemovesEntry}}
use Rattle.npf_ctl_script.specs.declared.script.ScriptLine.{ScriptLine}
use Rattle.npf_ctl_script.specs.declared.script.ScriptLine.TheVariants as Said
use Rattle.npf_ctl_input.specs.Unless.{UnlessMemory}
use Rattle.npf_ctl_prepare.specs.{Configurations.{AddsRuleAlone, told_at_line}, Reloads.ReloadsFile, Told.{AnswersChange, made_of}}
use Rattle.npf_ctl_prepare.proofs.MakeLemmas.{change_answers, ids_kept, not_change, nothing_answers, reload_answers}
use Rattle.npf_ctl_prepare.proofs.configurations.make_next.Goals as goal

pub returns-in-Reload-clause-answers : goal.returns-in-Reload-clause-answers
returns-in-Reload-clause-answers g c = λ before after around.
    let last = c.args.last.now in
    let n = c.args.line.now.0 in
    let comes = subst (λ (file : List ℕ). UnlessMemory (made_of (configuration last)) c.reload.result (ReloadsFile before after c.args.ifaces.now.list (configuration last) file)) c.as_slice.ensures
    (c.reload.ensures.comes before after around) in
    subst (λ (said : ScriptLine). AnswersChange before after c.args.ifaces.now.list c.args.script.now last (n, said) c.reload.result) (sym c.in-Reload.is)
    (reload_answers before after c.args.ifaces.now.list c.args.script.now last n c.in-Reload.file c.reload.result comes c.reload.ensures.makes c.reload.ensures.changeable)

pub returns-in-RuleAdd-clause-answers : goal.returns-in-RuleAdd-clause-answers
returns-in-RuleAdd-clause-answers g c = λ before after around.
    let last = c.args.last.now in
    let n = c.args.line.now.0 in
    let ifaces = c.args.ifaces.now.list in
    subst (λ (said : ScriptLine). AnswersChange before after ifaces c.args.script.now last (n, said) c.told.result) (sym c.in-RuleAdd.is)
    (change_answers before after ifaces c.args.script.now last n (Said.RuleAdd c.in-RuleAdd.name c.in-RuleAdd.text)
    (AddsRuleAlone (configuration last) c.in-RuleAdd.name ifaces c.as_slice-in-RuleAdd.result.now) c.add_rule.result c.told.result
    (λ result is. subst (λ (text : List ℕ). (AddsRuleAlone (configuration last) c.in-RuleAdd.name ifaces text told_by told_at_line c.args.script.now n) result) c.as_slice-in-RuleAdd.ensures is)
    refl c.add_rule.ensures.ok c.add_rule.ensures.err c.add_rule.ensures.loaded c.add_rule.ensures.ids c.told.ensures)

pub returns-in-RuleRem-clause-answers : goal.returns-in-RuleRem-clause-answers
returns-in-RuleRem-clause-answers g c = λ before after around.
    let last = c.args.last.now in
    let n = c.args.line.now.0 in
    let ifaces = c.args.ifaces.now.list in
    subst (λ (said : ScriptLine). AnswersChange before after ifaces c.args.script.now last (n, said) c.told-in-RuleRem.result) (sym c.in-RuleRem.is)
    (change_answers before after ifaces c.args.script.now last n (Said.RuleRem c.in-RuleRem.name c.in-RuleRem.id)
    (RemovesRule (configuration c.args.last.now) c.in-RuleRem.name c.in-RuleRem.id) c.rule_rem.result c.told-in-RuleRem.result (λ result is. is)
    refl c.rule_rem.ensures.ok c.rule_rem.ensures.err (c.rule_rem.ensures.loaded c.requires.last.loaded) (ids_kept last c.rule_rem.result c.rule_rem.ensures.ids) c.told-in-RuleRem.ensures)

pub returns-in-RuleFlush-clause-answers : goal.returns-in-RuleFlush-clause-answers
returns-in-RuleFlush-clause-answers g c = λ before after around.
    let last = c.args.last.now in
    let n = c.args.line.now.0 in
    let ifaces = c.args.ifaces.now.list in
    subst (λ (said : ScriptLine). AnswersChange before after ifaces c.args.script.now last (n, said) c.told-in-RuleFlush.result) (sym c.in-RuleFlush.is)
    (change_answers before after ifaces c.args.script.now last n (Said.RuleFlush c.in-RuleFlush.name)
    (FlushesRules (configuration c.args.last.now) c.in-RuleFlush.name) c.rule_flush.result c.told-in-RuleFlush.result (λ result is. is)
    refl c.rule_flush.ensures.ok c.rule_flush.ensures.err (c.rule_flush.ensures.loaded c.requires.last.loaded) (ids_kept last c.rule_flush.result c.rule_flush.ensures.ids) c.told-in-RuleFlush.ensures)

pub returns-in-TableAdd-clause-answers : goal.returns-in-TableAdd-clause-answers
returns-in-TableAdd-clause-answers g c = λ before after around.
    let last = c.args.last.now in
    let n = c.args.line.now.0 in
    let ifaces = c.args.ifaces.now.list in
    subst (λ (said : ScriptLine). AnswersChange before after ifaces c.args.script.now last (n, said) c.told-in-TableAdd.result) (sym c.in-TableAdd.is)
    (change_answers before after ifaces c.args.script.now last n (Said.TableAdd c.in-TableAdd.name c.in-TableAdd.prefix)
    (AddsEntry (table_kinds last.tables.items) (configuration last) c.in-TableAdd.name c.in-TableAdd.prefix) c.table_add.result c.told-in-TableAdd.result
    (λ result is.
    subst (λ (kinds : List Kind). (AddsEntry kinds (configuration last) c.in-TableAdd.name c.in-TableAdd.prefix told_by told_at_line c.args.script.now n) result) c.requires.last.loaded.kinds is)
    refl c.table_add.ensures.ok c.table_add.ensures.err (c.table_add.ensures.loaded c.requires.last.loaded) (ids_kept last c.table_add.result c.table_add.ensures.ids) c.told-in-TableAdd.ensures)

pub returns-in-TableRem-clause-answers : goal.returns-in-TableRem-clause-answers
returns-in-TableRem-clause-answers g c = λ before after around.
    let last = c.args.last.now in
    let n = c.args.line.now.0 in
    let ifaces = c.args.ifaces.now.list in
    subst (λ (said : ScriptLine). AnswersChange before after ifaces c.args.script.now last (n, said) c.told-in-TableRem.result) (sym c.in-TableRem.is)
    (change_answers before after ifaces c.args.script.now last n (Said.TableRem c.in-TableRem.name c.in-TableRem.prefix)
    (RemovesEntry (table_kinds last.tables.items) (configuration last) c.in-TableRem.name c.in-TableRem.prefix) c.table_rem.result c.told-in-TableRem.result
    (λ result is.
    subst (λ (kinds : List Kind).
    (RemovesEntry kinds (configuration last) c.in-TableRem.name c.in-TableRem.prefix told_by told_at_line c.args.script.now n) result) c.requires.last.loaded.kinds is)
    refl c.table_rem.ensures.ok c.table_rem.ensures.err (c.table_rem.ensures.loaded c.requires.last.loaded) (ids_kept last c.table_rem.result c.table_rem.ensures.ids) c.told-in-TableRem.ensures)

pub returns-in_default-clause-answers : goal.returns-in_default-clause-answers
returns-in_default-clause-answers g c = λ before after around.
    let no = c.in_default in
    nothing_answers before after c.args.ifaces.now.list c.args.script.now c.args.last.now c.args.line.now.0 c.args.line.now.1
    (not_change c.args.line.now.1 no.not-Reload no.not-RuleAdd no.not-RuleRem no.not-RuleFlush no.not-TableAdd no.not-TableRem)
