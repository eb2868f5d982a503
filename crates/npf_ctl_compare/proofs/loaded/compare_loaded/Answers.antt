use Rattle.std.proofs.Common.{◌≡◌, rules}
use Rattle.npf_ruleset.specs.Configuration.{configuration}
use Rattle.npf_ctl_compare.specs.Loaded.{new_numbered, old_numbered}
use Rattle.npf_ctl_compare.proofs.FaultLemmas.{refuses}
use Rattle.npf_ctl_compare.proofs.loaded.compare_loaded.Goals as goal

pub returns-clause-err : goal.returns-clause-err
returns-clause-err c =
    let old_is : configuration c.number.new.self ≡ old_numbered c.args.ifaces.list (configuration c.args.old) (configuration c.args.new) = search rules in
    let new_is : configuration c.number-2.new.self ≡ new_numbered c.args.ifaces.list (configuration c.args.old) (configuration c.args.new) = search rules in
    refuses c.args.ifaces.list (configuration c.args.old) (configuration c.args.new) c.args.most c.compare_text.result old_is new_is c.compare_text.ensures.err
