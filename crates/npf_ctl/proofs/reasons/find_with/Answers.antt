use Rattle.std.proofs.Common.{rules, ◌≡◌, ℕ, List, Ok, Err, Some, subst, sym}
use Rattle.npf_types.specs.{Stages.goes_on, declared.limits.TheConstants.MAX_TEXT_BYTES}
use Rattle.npf_model.specs.declared.iface.Iface.{Iface}
use Rattle.npf_ctl_input.{specs.File.ReadsFile, proofs.AroundLemmas.{around_first, around_itself, around_next}}
use Rattle.npf_ctl_why.specs.Text.{IsExplanation}
use Rattle.npf_ctl.{specs.Reasons.TellsReason, proofs.ReasonLemmas.{found_in_ifaces, ifaces_unread}}
use Rattle.npf_ctl.proofs.reasons.find_with.Goals as goal

pub returns-in_err-bytes-clause-found : goal.returns-in_err-bytes-clause-found
returns-in_err-bytes-clause-found g c =
    let first = g.F.Files.moment c.args.files.now in
    let last = g.F.Files.moment c.read_file.new.files in
    let fault = c.in_err-bytes.field-0.0 in
    let same : c.from_residual.result ≡ Err fault = search rules in
    rw same (ifaces_unread c.args.which first last c.args.file.now c.args.conf.now fault (c.in_err-bytes.ensures.comes first last (around_itself first last)))

pub returns-in-Ok-clause-found : goal.returns-in-Ok-clause-found
returns-in-Ok-clause-found g c =
    let first = g.F.Files.moment c.args.files.now in
    let middle = g.F.Files.moment c.read_file.new.files in
    let last = g.F.Files.moment c.find_in.new.files in
    let file = c.args.file.now in
    let whole = around_itself first last in
    let read = c.in_ok-bytes.ensures.comes first last (around_first first first middle last last whole c.find_in.ensures.reads) in
    let text = subst (λ (bytes : List ℕ). ReadsFile first last file MAX_TEXT_BYTES (Ok bytes)) (sym c.as_slice-text.ensures.value) read in
    c.find_in.ensures.found first last (Some file) (around_next first first middle last last whole c.in_ok-bytes.ensures.reads) (goes_on text c.in-Ok.ensures)

pub returns-clause-found : goal.returns-clause-found
returns-clause-found g c =
    let first = g.F.Files.moment c.args.files.now in
    let last = g.F.Files.moment c.read_file.new.files in
    let file = c.args.file.now in
    let text = c.as_slice-text.result.now in
    let read = c.in_ok-bytes.ensures.comes first last (around_itself first last) in
    found_in_ifaces c.args.which first last file c.args.conf.now text (subst (λ (bytes : List ℕ). ReadsFile first last file MAX_TEXT_BYTES (Ok bytes)) (sym c.as_slice-text.ensures.value) read)
    c.in-Err.fault c.in-Err.ensures c.reason_of.result
    (subst (λ (none : List Iface). TellsReason (IsExplanation none c.in-Err.fault (Some text)) c.in-Err.fault c.reason_of.result) c.requires c.reason_of.ensures)
