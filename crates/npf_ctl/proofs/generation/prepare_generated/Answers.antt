use Rattle.std.proofs.Common.{rules, ◌≡◌, Err, Some, refl, arith}
use Rattle.npf_ctl_messages.specs.declared.fault.CommandFault.TheVariants.{NoMemory}
use Rattle.npf_outside.specs.Files.{Tree}
use Rattle.npf_ctl_prepare.specs.{View.run_plan_of, Prepares.PreparesRun}
use Rattle.npf_ctl_input.proofs.UnlessLemmas.{unless_lasts}
use Rattle.npf_ctl.specs.{Ends.PreparesGenerated, Generated.{PreparesOf, contents_of, generated_moment, generated_names}}
use Rattle.npf_ctl.proofs.FileLemmas.{around_work, read_on}
use Rattle.npf_ctl.proofs.generation.prepare_generated.Goals as goal

pub returns-in_err-files-clause-comes : goal.returns-in_err-files-clause-comes
returns-in_err-files-clause-comes c =
    let same : c.from_residual.result ≡ Err NoMemory = search rules in
    rw same PreparesGenerated.unmade

pub returns-clause-comes : goal.returns-clause-comes
returns-clause-comes c =
    let files = generated_moment c.in_ok-files.files in
    let read = generated_moment c.prepare_run.new.files in
    let tree : Tree = λ name. Some (contents_of c.in_ok-files.files.workload name) in
    PreparesGenerated.made {tree = tree} c.in_ok-files.ensures
    (unless_lasts run_plan_of (PreparesRun files read generated_names) (PreparesOf tree)
    (λ result. c.contents_decide.ensures generated_names tree files read result refl (refl, omega arith))
    c.prepare_run.result (c.prepare_run.ensures.comes files read (around_work files read read (read_on read))))
