use Rattle.std.{proofs.{Common.{subst, sym}, lemmas.Result.IfOk-weaker}, specs.Result.IfOk}
use Rattle.npf_ruleset.specs.Configuration.{programs}
use Rattle.npf_ctl.specs.{declared.inspection.ConfigText.ConfigText, Inspection.IsLookText}
use Rattle.npf_ctl.proofs.inspection.look_text.Goals as goal

pub returns-in-Programs : goal.returns-in-Programs
returns-in-Programs c =
    let config = c.args.config.now in
    subst (λ (look : ConfigText). IfOk c.programs_text.result (λ text. IsLookText look config.model text.items)) (sym c.in-Programs.is)
    (IfOk-weaker c.programs_text.result _ _ (λ text is. (programs config, config.limits, is)) c.programs_text.ensures)
