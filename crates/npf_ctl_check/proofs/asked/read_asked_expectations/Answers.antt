use Rattle.std.proofs.Common.{◌≡◌, Err, List, length, ap, ◌∙◌, rules}
use Rattle.std.specs.List.{flat_map}
use Rattle.npf_interfaces.specs.Names.{with_names}
use Rattle.npf_model.specs.declared.iface.Iface.{Iface}
use Rattle.npf_ctl_messages.specs.declared.fault.CommandFault.TheVariants.{NoMemory}
use Rattle.npf_ctl_check.specs.AskedAbout.{RefusesExpectations, all_ifaces, class_names, known_ifaces}
use Rattle.npf_ctl_check.proofs.asked.read_asked_expectations.Goals as goal

pub returns-in_err-known-clause-err : goal.returns-in_err-known-clause-err
returns-in_err-known-clause-err c =
    let same : c.from_residual.result ≡ Err NoMemory = search rules in
    rw same RefusesExpectations.memory

pub returns-in_err-read-clause-err : goal.returns-in_err-read-clause-err
returns-in_err-read-clause-err c =
    let fault = c.in_err-read.field-0.0 in
    let same : c.from_residual-in_err-read.result ≡ Err fault = search rules in
    rw same (RefusesExpectations.line (rw (c.in_ok-known.ensures, c.model.ensures, c.model-2.ensures) at c.in_err-read.ensures.err))

pub returns-in_err-names-clause-err : goal.returns-in_err-names-clause-err
returns-in_err-names-clause-err c =
    let same : c.from_residual-in_err-names.result ≡ Err NoMemory = search rules in
    rw same RefusesExpectations.memory

pub returns-in_err-ifaces-clause-err : goal.returns-in_err-ifaces-clause-err
returns-in_err-ifaces-clause-err c =
    let same : c.from_residual-in_err-ifaces.result ≡ Err NoMemory = search rules in
    rw same RefusesExpectations.memory

pub returns-in_err-expectations-clause-err : goal.returns-in_err-expectations-clause-err
returns-in_err-expectations-clause-err c =
    let same : c.from_residual-in_err-expectations.result ≡ Err NoMemory = search rules in
    rw same RefusesExpectations.memory

pub returns-then-count-gt-MAX_INTERFACES-clause-err : goal.returns-then-count-gt-MAX_INTERFACES-clause-err
returns-then-count-gt-MAX_INTERFACES-clause-err c =
    let read = c.in_ok-read.read.items in
    let known : c.in_ok-known.known.list ≡ known_ifaces c.args.ifaces.list c.args.config.model =
    c.in_ok-known.ensures ∙ ap (known_ifaces c.args.ifaces.list) c.model.ensures in
    let all : c.as_slice-count.result.now ≡ all_ifaces (known_ifaces c.args.ifaces.list c.args.config.model) read =
    c.as_slice-count.ensures ∙ c.in_ok-ifaces.ensures
    ∙ ap (with_names c.in_ok-known.known.list) (c.as_slice-2.ensures.value ∙ c.in_ok-names.ensures ∙ ap (flat_map class_names) c.as_slice.ensures.value)
    ∙ ap (λ (first : List Iface). all_ifaces first read) known in
    RefusesExpectations.many (rw (c.in_ok-known.ensures, c.model.ensures, c.model-2.ensures) at c.in_ok-read.ensures.ok) (ap (λ (ifaces : List Iface). length ifaces) all)
    c.if-count-gt-MAX_INTERFACES.true
