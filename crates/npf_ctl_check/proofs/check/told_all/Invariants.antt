use Rattle.std.proofs.Common.{◌≡◌, ◌≤◌, take}
use Rattle.npf_ruleset.specs.Configuration.{configuration}
use Rattle.npf_ctl_check.specs.CheckText.{AreUnmetTold}
use Rattle.npf_ctl_check.proofs.check.told_all.Given as goal

abbrev pub invariant-loop-expectation : goal.invariant-loop-expectation
invariant-loop-expectation l = record {
  told : AreUnmetTold l.file l.asked.ifaces.list (configuration l.asked.config) (take l.expectation-index l.asked.expectations.items) l.answer.text.items l.answer.failed;
  few : l.answer.failed ≤ l.expectation-index;
  most : l.steps.most ≡ l.fn.steps.most;
}
