use Rattle.std.proofs.Common.{◌≡◌, Err, rules}
use Rattle.npf_ctl_input.{specs.{Interfaces.ReadsInterfaces, Loads.LoadsFile}, proofs.AroundLemmas.{around_first, around_next}}
use Rattle.npf_ctl_input.proofs.UnlessLemmas.{stops_unless}
use Rattle.npf_ctl_words.specs.CommandLine.{given_text}
use Rattle.npf_ctl.proofs.AnswerQuestionLemmas.{conf_unloaded}
use Rattle.npf_ctl.proofs.questions.load_both.Goals as goal

pub returns-in_err-ifaces-clause-loads : goal.returns-in_err-ifaces-clause-loads
returns-in_err-ifaces-clause-loads g c = λ before after around.
    let fault = c.in_err-ifaces.field-0.0 in
    let same : c.from_residual.result ≡ Err fault = search rules in
    rw same
    (stops_unless (ReadsInterfaces before after (given_text c.args.load.ifaces)) (λ given. LoadsFile before after given c.args.load.conf.now) fault
    (c.in_err-ifaces.ensures.comes before after around))

pub returns-in_err-config-clause-loads : goal.returns-in_err-config-clause-loads
returns-in_err-config-clause-loads g c = λ before after around.
    let old = g.F.Files.moment c.args.files.now in
    let middle = g.F.Files.moment c.read_interfaces.new.files in
    let new = g.F.Files.moment c.load_file.new.files in
    let fault = c.in_err-config.field-0.0 in
    let same : c.from_residual-in_err-config.result ≡ Err fault = search rules in
    let read = c.in_ok-ifaces.ensures.comes before after (around_first before old middle new after around c.load_file.ensures.reads) in
    rw same
    (conf_unloaded before after c.args.load c.in_ok-ifaces.ifaces.list read fault
    (c.in_err-config.ensures.comes before after (around_next before old middle new after around c.in_ok-ifaces.ensures.reads)))

pub returns-clause-loads : goal.returns-clause-loads
returns-clause-loads g c = λ before after around.
    let old = g.F.Files.moment c.args.files.now in
    let middle = g.F.Files.moment c.read_interfaces.new.files in
    let new = g.F.Files.moment c.load_file.new.files in (
      c.in_ok-ifaces.ensures.comes before after (around_first before old middle new after around c.load_file.ensures.reads),
      c.in_ok-config.ensures.comes before after (around_next before old middle new after around c.in_ok-ifaces.ensures.reads),
    )
