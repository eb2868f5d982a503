use Rattle.std.{proofs.Common.{◌≡◌, true, take}, specs.Prelude.All}
use Rattle.npf_reass_run.proofs.share.are_decided.Given as goal

abbrev pub invariant-loop-class : goal.invariant-loop-class
invariant-loop-class l = All (λ class. class.decided ≡ true) (take l.class-index l.classes)
