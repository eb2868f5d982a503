use Rattle.npf_ctl_prepare.proofs.NumberLemmas.{number_changeable}
use Rattle.npf_ctl_prepare.proofs.interfaces.numbered.Goals as goal

pub returns-clause-changeable : goal.returns-clause-changeable
returns-clause-changeable c =
    number_changeable c.args.ifaces.now.list c.args.config c.number.new.self c.number.ensures.model c.number.ensures.tables 1 c.requires
