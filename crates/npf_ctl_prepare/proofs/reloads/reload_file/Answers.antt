use Rattle.std.proofs.Common.{◌≡◌, ℕ, Ok, Err, List, rules, subst, sym}
use Rattle.npf_types.specs.declared.limits.TheConstants.{MAX_TEXT_BYTES}
use Rattle.npf_ruleset.specs.Configuration.{configuration}
use Rattle.npf_ctl_input.{specs.File.ReadsFile, proofs.{AroundLemmas.{around_first, around_next}, UnlessLemmas.{goes_on_unless, stops_unless}}}
use Rattle.npf_ctl_prepare.specs.Reloads.{ReloadsText}
use Rattle.npf_ctl_prepare.proofs.reloads.reload_file.Goals as goal

pub returns-in_err-text-clause-comes : goal.returns-in_err-text-clause-comes
returns-in_err-text-clause-comes g c = λ before after around.
    let file = c.args.file.now in
    let fault = c.in_err-text.field-0.0 in
    let same : c.from_residual.result ≡ Err fault = search rules in
    rw same
    (stops_unless (ReadsFile before after file MAX_TEXT_BYTES) (ReloadsText before after c.args.ifaces.now.list (configuration c.args.last.now) file) fault
    (c.in_err-text.ensures.comes before after around))

pub returns-clause-comes : goal.returns-clause-comes
returns-clause-comes g c = λ before after around.
    let old = g.F.Files.moment c.args.files.now in
    let middle = g.F.Files.moment c.read_file.new.files in
    let new = g.F.Files.moment c.reload_text.new.files in
    let file = c.args.file.now in
    let text = c.as_slice.result.now in
    let read = c.in_ok-text.ensures.comes before after (around_first before old middle new after around c.reload_text.ensures.reads) in
    goes_on_unless (ReadsFile before after file MAX_TEXT_BYTES) (ReloadsText before after c.args.ifaces.now.list (configuration c.args.last.now) file) text
    (subst (λ (bytes : List ℕ). ReadsFile before after file MAX_TEXT_BYTES (Ok bytes)) (sym c.as_slice.ensures.value) read) configuration c.reload_text.result
    (c.reload_text.ensures.comes before after (around_next before old middle new after around c.in_ok-text.ensures.reads))
