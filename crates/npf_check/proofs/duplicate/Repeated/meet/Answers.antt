use Rattle.std.proofs.Common.{ap, ◌∙◌}
use Rattle.npf_shelf.proofs.OptionLemmas.{OnOk-weaker}
use Rattle.npf_faults.specs.{declared.fault.Fault.TheVariants.DuplicateName, First.{earlier, fault_if, first_fault}}
use Rattle.npf_check.{specs.Name.holds, proofs.DuplicateLemmas.repeated_step}
use Rattle.npf_check.proofs.duplicate.Repeated.meet.Goals as goal

pub returns : goal.returns
returns c =
    let given = c.in-Some.given in
    let was = c.args.self.now in
    let is = c.earlier-self.ensures ∙ ap (earlier was.first) (c.fault_if.ensures
    ∙ ap (λ again. first_fault (fault_if again given.span DuplicateName)) c.has-again.ensures) in
    rw c.in-Some.is (OnOk-weaker _ _ c.add.result (λ more names. repeated_step (holds was.names) (holds c.add.new.self)
    (record { name = given.text.now; span = given.span }) names was.first c.earlier-self.result more is) c.add.ensures)
