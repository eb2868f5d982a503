use Rattle.npf_nat.proofs.NptLemmas.{zeroed_ipv6}
use Rattle.npf_nat.proofs.npt.npt66.Goals as goal

pub npt66_number-requires-clause-zeroed : goal.npt66_number-requires-clause-zeroed
npt66_number-requires-clause-zeroed c = rw c.address_number-2.ensures (zeroed_ipv6 c.args.to.addr c.args.to.len c.requires.to_ipv6 c.args.to.zeroed)
