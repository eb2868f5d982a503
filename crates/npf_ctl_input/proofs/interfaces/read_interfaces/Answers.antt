use Rattle.std.proofs.Common.{◌≡◌, ℕ, Ok, Err, List, rules, subst, sym}
use Rattle.npf_types.specs.declared.limits.TheConstants.{MAX_TEXT_BYTES}
use Rattle.npf_ctl_input.{specs.{File.ReadsFile, Interfaces.NamesInterfaces}, proofs.UnlessLemmas.{goes_on_unless, stops_unless}}
use Rattle.npf_ctl_input.proofs.interfaces.read_interfaces.Goals as goal

pub returns-in_err-text-in-Some-clause-comes : goal.returns-in_err-text-in-Some-clause-comes
returns-in_err-text-in-Some-clause-comes g c = λ before after around.
    let file = c.in-Some.file.now in
    let fault = c.in_err-text-in-Some.field-0.0 in
    let same : c.from_residual.result ≡ Err fault = search rules in
    rw (same, c.in-Some.is)
    (stops_unless (ReadsFile before after file MAX_TEXT_BYTES) (NamesInterfaces file) fault (c.in_err-text-in-Some.ensures.comes before after around))

pub returns-in_ok-text-in-Some-clause-comes : goal.returns-in_ok-text-in-Some-clause-comes
returns-in_ok-text-in-Some-clause-comes g c = λ before after around.
    let file = c.in-Some.file.now in
    let read = c.in_ok-text-in-Some.ensures.comes before after around in
    rw c.in-Some.is
    (goes_on_unless (ReadsFile before after file MAX_TEXT_BYTES) (NamesInterfaces file) c.as_slice.result.now
    (subst (λ (bytes : List ℕ). ReadsFile before after file MAX_TEXT_BYTES (Ok bytes)) (sym c.as_slice.ensures.value) read) (λ ifaces. ifaces.list)
    c.interfaces_of.result c.interfaces_of.ensures)
