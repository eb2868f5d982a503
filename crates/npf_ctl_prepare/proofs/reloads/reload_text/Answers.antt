use Rattle.std.proofs.Common.{Ok, Err}
use Rattle.npf_types.specs.Stages.{done}
use Rattle.npf_ruleset.specs.Configuration.{configuration}
use Rattle.npf_ctl_input.{specs.Loads.told_load, proofs.{ReadingLemmas.meets_around, UnlessLemmas.unless_lasts}}
use Rattle.npf_ctl_prepare.{specs.Reloads.{ReloadsText, loaded}, proofs.ReloadingLemmas.{reload_text_lasts, reload_told}}
use Rattle.npf_ctl_prepare.proofs.reloads.reload_text.Goals as goal

pub returns-in-Ok-clause-comes : goal.returns-in-Ok-clause-comes
returns-in-Ok-clause-comes g c = λ before after around.
    let old = g.F.Files.moment c.args.files.now in
    let new = g.F.Files.moment c.reload.new.files in
    reload_text_lasts old new before after (meets_around before old new after around) c.args.ifaces.now.list (configuration c.args.last.now) c.args.file.now c.args.text.now
    (Ok (configuration c.in-Ok.config)) (loaded (done c.in-Ok.ensures.taken))

pub returns-in_ok-told_fault-in-Err-clause-comes : goal.returns-in_ok-told_fault-in-Err-clause-comes
returns-in_ok-told_fault-in-Err-clause-comes g c = λ before after around.
    let old = g.F.Files.moment c.args.files.now in
    let new = g.F.Files.moment c.reload.new.files in
    let ifaces = c.args.ifaces.now.list in
    let last = configuration c.args.last.now in
    let file = c.args.file.now in
    let text = c.args.text.now in
    rw c.in_ok-told_fault-in-Err.ensures
    (unless_lasts configuration (ReloadsText old new ifaces last file text) (ReloadsText before after ifaces last file text)
    (reload_text_lasts old new before after (meets_around before old new after around) ifaces last file text) (Err (told_load file c.in-Err.fault))
    (reload_told old new ifaces last file text c.in-Err.fault c.in-Err.ensures.refuses))
