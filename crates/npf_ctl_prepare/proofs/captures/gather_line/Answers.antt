use Rattle.std.proofs.Common.{◌≡◌, ◌∙◌, Err, List, Ok, ap, length, rules, subst, sym, ℕ}
use Rattle.npf_types.specs.declared.limits.TheConstants.{MAX_CAPTURE_BYTES}
use Rattle.npf_model.specs.declared.iface.Iface.{Iface}
use Rattle.npf_ctl_arrivals.specs.{Gathering.gathered_so_far, Within.IsInterfaceNumber}
use Rattle.npf_ctl_input.specs.{File.ReadsFile, Source.Scripted, Unless.IfTold}
use Rattle.npf_ctl_prepare.{specs.{Captures.interface_id, Known.NamesKnownInterface}, proofs.GatherLemmas.{line_done, line_unread}}
use Rattle.npf_ctl_prepare.proofs.captures.gather_line.Goals as goal

pub returns-in_err-bytes-clause-comes : goal.returns-in_err-bytes-clause-comes
returns-in_err-bytes-clause-comes g c =
    let fault = c.in_err-bytes.field-0.0 in
    let same : c.from_residual.result ≡ Err fault = search rules in
    let same_file : c.in-Ok.file.now ≡ c.in-Capture.file = search rules in
    λ before after lines around.
    rw same (rw c.in-Capture.is
    (line_unread before after lines c.args.ifaces.now.list c.in-Capture.name c.in-Capture.dir c.in-Capture.file (gathered_so_far c.args.arrivals.now) fault
    (subst (λ (name : List ℕ). IfTold (λ other. ReadsFile before after name MAX_CAPTURE_BYTES (Err other)) fault) same_file (c.in_err-bytes.ensures.comes before after around))))

pub returns-clause-comes : goal.returns-clause-comes
returns-clause-comes g c =
    let same_file : c.in-Ok.file.now ≡ c.in-Capture.file = search rules in
    let same_id = c.number_of_name-ifid.ensures ∙ ap (λ (list : List Iface). interface_id list c.in-Capture.name) c.as_slice.ensures in
    let bytes = c.in_ok-bytes.bytes.items in
    λ before after lines around.
    rw c.in-Capture.is
    (line_done before after (Scripted lines) c.args.ifaces.now.list c.in-Capture.name c.in-Capture.dir c.in-Capture.file (gathered_so_far c.args.arrivals.now)
    (gathered_so_far c.add.new.self) bytes
    (subst (λ (name : List ℕ). ReadsFile before after name MAX_CAPTURE_BYTES (Ok bytes)) same_file (c.in_ok-bytes.ensures.comes before after around))
    c.in-Ok.file.now same_file c.number_of_name-ifid.result same_id
    c.add.result c.add.ensures.gathers c.add.ensures.refused)

pub returns-clause-crosses : goal.returns-clause-crosses
returns-clause-crosses g c =
    let count = length c.args.ifaces.now.list in
    let same_id = c.number_of_name-ifid.ensures ∙ ap (λ (list : List Iface). interface_id list c.in-Capture.name) c.as_slice.ensures in
    let known = subst (NamesKnownInterface c.args.ifaces.now.list) c.in-Capture.is c.requires.known in
    c.add.ensures.crosses count c.requires.crosses (subst (IsInterfaceNumber count) (sym same_id) known)
