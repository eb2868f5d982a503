use Rattle.std.proofs.Common.{Ok, Err}
use Rattle.npf_ruleset.specs.Configuration.{configuration, programs}
use Rattle.npf_ctl_input.{specs.Loads.{LoadsText, loaded, told_load}, proofs.{LoadingLemmas.{refusal_told, text_lasts}, ReadingLemmas.meets_around}}
use Rattle.npf_ctl_input.proofs.UnlessLemmas.{unless_lasts}
use Rattle.npf_ctl_input.proofs.loads.load_text.Goals as goal

pub returns-in-Ok-clause-comes : goal.returns-in-Ok-clause-comes
returns-in-Ok-clause-comes g c = λ before after around.
    let old = g.F.Files.moment c.args.files.now in
    let new = g.F.Files.moment c.load.new.files in
    text_lasts old new before after (meets_around before old new after around) c.args.ifaces.now.list c.args.file.now c.args.text.now
    (Ok (configuration c.in-Ok.config)) (loaded {programs = programs c.in-Ok.config} c.in-Ok.ensures.first c.in-Ok.config.limits)

pub returns-in_ok-told_fault-in-Err-clause-comes : goal.returns-in_ok-told_fault-in-Err-clause-comes
returns-in_ok-told_fault-in-Err-clause-comes g c = λ before after around.
    let old = g.F.Files.moment c.args.files.now in
    let new = g.F.Files.moment c.load.new.files in
    let ifaces = c.args.ifaces.now.list in
    let file = c.args.file.now in
    let text = c.args.text.now in
    rw c.in_ok-told_fault-in-Err.ensures
    (unless_lasts configuration (LoadsText old new ifaces file text) (LoadsText before after ifaces file text)
    (text_lasts old new before after (meets_around before old new after around) ifaces file text) (Err (told_load file c.in-Err.fault))
    (refusal_told old new ifaces file text c.in-Err.fault c.in-Err.ensures.refuses))
