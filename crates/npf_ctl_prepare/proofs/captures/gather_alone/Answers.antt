use Rattle.std.proofs.{Common.{◌≡◌, ◌∙◌, Err, List, Ok, All, ap, length, refl, rules, subst, sym}, lemmas.List.Elements.All-nil}
use Rattle.npf_model.specs.declared.iface.Iface.{Iface}
use Rattle.npf_ctl_arrivals.specs.{Arrivals.Gathered, Gathering.gathered_so_far, Within.{CrossesOneOf, IsInterfaceNumber}}
use Rattle.npf_ctl_input.specs.Source.{Alone}
use Rattle.npf_ctl_prepare.{specs.{Captures.interface_id, Known.NamesKnownInterface}, proofs.GatherLemmas.first_done}
use Rattle.npf_ctl_prepare.proofs.captures.gather_alone.Goals as goal

pub returns-in_err-add-clause-comes : goal.returns-in_err-add-clause-comes
returns-in_err-add-clause-comes c =
    let fault = c.in_err-add.field-0.0 in
    let same : c.from_residual.result ≡ Err fault = search rules in
    let same_file : c.in-Ok.file.now ≡ c.in-Capture.file = search rules in
    let same_id = c.number_of_name-ifid.ensures ∙ ap (λ (list : List Iface). interface_id list c.in-Capture.name) c.as_slice-2.ensures in
    λ before after.
    rw (same, c.in-Capture.is)
    (first_done before after (Alone c.args.bytes.items) c.args.ifaces.now.list c.in-Capture.name c.in-Capture.dir c.in-Capture.file (gathered_so_far c.new-arrivals.result)
    (gathered_so_far c.add.new.self) c.args.bytes.items refl c.in-Ok.file.now same_file c.number_of_name-ifid.result same_id c.new-arrivals.ensures.empty
    (Err fault) tt c.in_err-add.ensures.refused)

pub returns-clause-comes : goal.returns-clause-comes
returns-clause-comes c =
    let same_file : c.in-Ok.file.now ≡ c.in-Capture.file = search rules in
    let same_id = c.number_of_name-ifid.ensures ∙ ap (λ (list : List Iface). interface_id list c.in-Capture.name) c.as_slice-2.ensures in
    λ before after.
    rw c.in-Capture.is
    (first_done before after (Alone c.args.bytes.items) c.args.ifaces.now.list c.in-Capture.name c.in-Capture.dir c.in-Capture.file (gathered_so_far c.new-arrivals.result)
    (gathered_so_far c.add.new.self) c.args.bytes.items refl c.in-Ok.file.now same_file c.number_of_name-ifid.result same_id c.new-arrivals.ensures.empty
    (Ok tt) c.in_ok-add.ensures.gathers tt)

pub returns-clause-crosses : goal.returns-clause-crosses
returns-clause-crosses c =
    let count = length c.args.ifaces.now.list in
    let same_id = c.number_of_name-ifid.ensures ∙ ap (λ (list : List Iface). interface_id list c.in-Capture.name) c.as_slice-2.ensures in
    let known = subst (NamesKnownInterface c.args.ifaces.now.list) c.in-Capture.is c.requires.known in
    c.add.ensures.crosses count
    (subst (λ (gathered : Gathered). All (CrossesOneOf count) gathered.packets) (sym c.new-arrivals.ensures.empty) (All-nil (CrossesOneOf count)))
    (subst (IsInterfaceNumber count) (sym same_id) known)
