use Rattle.npf_ruleset.specs.Configuration.{configuration}
use Rattle.npf_ctl_check.proofs.ToldLemmas.{tells_each}
use Rattle.npf_ctl_check.proofs.told.told_of.Goals as goal

pub returns-in_ok-told-in-Each-clause-told : goal.returns-in_ok-told-in-Each-clause-told
returns-in_ok-told-in-Each-clause-told c =
    tells_each c.args.file.now c.args.asked.now.ifaces.list (configuration c.args.asked.now.config) c.args.expectation.now c.in_ok-against-in-Each.against _ c.in-Each.is
    (rw c.wants_pass.ensures at c.in_ok-against-in-Each.ensures.first) c.in_ok-told-in-Each.ensures
