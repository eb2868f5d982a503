use Rattle.std.proofs.Common.{rules, ℕ, List, Ok, Err, subst}
use Rattle.npf_ruleset.specs.Configuration.{configuration}
use Rattle.npf_ctl_input.specs.{Loads.LoadsText, Unless.IfTold}
use Rattle.npf_ctl.specs.Reasons.{LoadsNext}
use Rattle.npf_ctl.proofs.ReasonLemmas.{refused_next}
use Rattle.npf_ctl.proofs.reasons.load_next.Goals as goal

pub returns-in-Ok-clause-loads : goal.returns-in-Ok-clause-loads
returns-in-Ok-clause-loads g c = λ before after around.
    let given = c.args.source.ifaces.now.list in
    let conf = c.args.source.conf.now in
    let config = configuration c.in-Ok.field-0 in
    LoadsNext.loaded {config = config} (subst (λ (text : List ℕ). LoadsText before after given conf text (Ok config)) c.as_slice.ensures.value (c.in-Ok.ensures.comes before after around))

pub returns : goal.returns
returns g c =
    let given = c.args.source.ifaces.now.list in
    let conf = c.args.source.conf.now in
    let fault = c.in-Err.fault in
    record {
      loads = λ before after around. refused_next before after given conf c.args.remains.now.left.items fault (search rules)
          (subst (λ (text : List ℕ). IfTold (λ why. LoadsText before after given conf text (Err why)) fault) c.as_slice.ensures.value (c.in-Err.ensures.comes before after around));
      reads = c.in-Err.ensures.reads;
    }
