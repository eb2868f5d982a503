use Rattle.std.proofs.Common.{rules, ◌≡◌, ℕ, List, Err, inl, subst, sym}
use Rattle.npf_core.specs.History.{state_of}
use Rattle.npf_flow.specs.Flows.{flow_law}
use Rattle.npf_connsave.specs.Saves.{IsSavedText}
use Rattle.npf_ctl_messages.specs.declared.fault.CommandFault.TheVariants.{NoMemory}
use Rattle.npf_ctl.proofs.{FileLemmas.same_as_itself, SaveLemmas.saved_to}
use Rattle.npf_ctl.proofs.saves.save_file.Goals as goal

pub returns-in_err-text-clause-fails : goal.returns-in_err-text-clause-fails
returns-in_err-text-clause-fails g c =
    let same : c.from_residual.result ≡ Err NoMemory = search rules in
    rw same (inl (same_as_itself (g.F.Files.moment c.args.files.now).contents))

pub returns-clause-saved : goal.returns-clause-saved
returns-clause-saved g c =
    let pass = g.C.Connections.view c.args.pass.now in
    saved_to (g.F.Files.moment c.write_file.new.files) pass c.args.names.now c.args.file.now c.as_slice.result.now
    (subst (λ (text : List ℕ). IsSavedText (state_of flow_law pass.history) c.args.names.now text) (sym c.as_slice.ensures.value) c.in_ok-text.ensures.saved)
    c.write_file.result c.write_file.ensures.written
