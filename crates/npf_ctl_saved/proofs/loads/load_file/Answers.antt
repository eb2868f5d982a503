use Rattle.std.proofs.Common.{◌≡◌, ℕ, List, Ok, Err, refl, rules, subst, sym}
use Rattle.npf_types.specs.declared.limits.TheConstants.{MAX_SAVED_BYTES}
use Rattle.npf_connsave.proofs.KeysLemmas.{sole_self}
use Rattle.npf_ctl_input.specs.File.{ReadsFile}
use Rattle.npf_ctl_saved.proofs.LoadingLemmas.{unloaded, unread}
use Rattle.npf_ctl_saved.proofs.loads.load_file.Goals as goal

pub returns-in_err-text-clause-fails : goal.returns-in_err-text-clause-fails
returns-in_err-text-clause-fails g c = λ before after around.
    let pass = g.C.Connections.view c.args.pass.now in
    let fault = c.in_err-text.field-0.0 in
    let same : c.from_residual.result ≡ Err fault = search rules in
    rw same (unread before after c.args.file.now c.args.names.now pass pass fault refl (c.in_err-text.ensures.comes before after around))

pub returns-in-Ok-clause-begins : goal.returns-in-Ok-clause-begins
returns-in-Ok-clause-begins g c = λ before after around.
    let read = c.in_ok-text.ensures.comes before after around in
    record {
      text = c.as_slice.result.now;
      reads = subst (λ (bytes : List ℕ). ReadsFile before after c.args.file.now MAX_SAVED_BYTES (Ok bytes)) (sym c.as_slice.ensures.value) read;
      loads = c.in-Ok.ensures.loads;
    }

pub returns-clause-fails : goal.returns-clause-fails
returns-clause-fails g c = λ before after around.
    let read = c.in_ok-text.ensures.comes before after around in
    rw c.in_ok-told_saved-in-Err.ensures
    (unloaded before after c.args.file.now c.args.names.now (g.C.Connections.view c.args.pass.now) (g.C.Connections.view c.load.new.pass) c.as_slice.result.now
    (subst (λ (bytes : List ℕ). ReadsFile before after c.args.file.now MAX_SAVED_BYTES (Ok bytes)) (sym c.as_slice.ensures.value) read) c.in-Err.fault c.in-Err.ensures.refused)

pub returns-in_err-text-clause-same : goal.returns-in_err-text-clause-same
returns-in_err-text-clause-same g c = sole_self (g.C.Connections.view c.args.pass.now)
