use Rattle.std.proofs.Common.{rules, ◌≡◌, ℕ, List, Ok, Err, subst, sym}
use Rattle.npf_types.specs.declared.limits.TheConstants.{MAX_TEXT_BYTES}
use Rattle.npf_ruleset.specs.Configuration.{configuration}
use Rattle.npf_ctl_input.{specs.File.ReadsFile, proofs.AroundLemmas.{around_first, around_next}}
use Rattle.npf_ctl.proofs.ReasonLemmas.{conf_unread, found_in_text, none_found}
use Rattle.npf_ctl.proofs.reasons.find_in.Goals as goal

pub returns-in_err-bytes-clause-found : goal.returns-in_err-bytes-clause-found
returns-in_err-bytes-clause-found g c = λ before after given around reads.
    let fault = c.in_err-bytes.field-0.0 in
    let same : c.from_residual.result ≡ Err fault = search rules in
    rw same (conf_unread c.args.which before after given c.args.conf.now c.args.ifaces.now.list reads fault (c.in_err-bytes.ensures.comes before after around))

pub returns-in-Ok-clause-found : goal.returns-in-Ok-clause-found
returns-in-Ok-clause-found g c = λ before after given around reads.
    let old = g.F.Files.moment c.args.files.now in
    let middle = g.F.Files.moment c.read_file.new.files in
    let new = g.F.Files.moment c.load_text.new.files in
    let conf = c.args.conf.now in
    let text = c.as_slice-text.result.now in
    let read = c.in_ok-bytes.ensures.comes before after (around_first before old middle new after around c.load_text.ensures.reads) in
    none_found c.args.which before after given conf c.args.ifaces.now.list reads text
    (subst (λ (bytes : List ℕ). ReadsFile before after conf MAX_TEXT_BYTES (Ok bytes)) (sym c.as_slice-text.ensures.value) read) (configuration c.in-Ok.field-0)
    (c.in-Ok.ensures.comes before after (around_next before old middle new after around c.in_ok-bytes.ensures.reads))

pub returns-clause-found : goal.returns-clause-found
returns-clause-found g c = λ before after given around reads.
    let old = g.F.Files.moment c.args.files.now in
    let read = g.F.Files.moment c.read_file.new.files in
    let loaded = g.F.Files.moment c.load_text.new.files in
    let new = g.F.Files.moment c.reason_in.new.files in
    let conf = c.args.conf.now in
    let text = c.as_slice-text.result.now in
    let to_load = around_first before old loaded new after around c.reason_in.ensures.reads in
    let behind = around_next before old read new after around c.in_ok-bytes.ensures.reads in
    let has = c.in_ok-bytes.ensures.comes before after (around_first before old read loaded after to_load c.load_text.ensures.reads) in
    found_in_text c.args.which before after given conf c.args.ifaces.now.list reads text
    (subst (λ (bytes : List ℕ). ReadsFile before after conf MAX_TEXT_BYTES (Ok bytes)) (sym c.as_slice-text.ensures.value) has) c.in-Err.fault
    (c.in-Err.ensures.comes before after (around_next before old read loaded after to_load c.in_ok-bytes.ensures.reads)) c.reason_in.result
    (c.reason_in.ensures.tells before after (around_next before read loaded new after behind c.load_text.ensures.reads))
