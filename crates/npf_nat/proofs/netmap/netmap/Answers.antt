use Rattle.npf_types.specs.declared.address.Addr.TheVariants.{V4, V6}
use Rattle.npf_nat.proofs.NetmapLemmas.{zeroed_number}
use Rattle.npf_nat.proofs.netmap.netmap.Goals as goal

pub moved_v4-requires-clause-zeroed : goal.moved_v4-requires-clause-zeroed
moved_v4-requires-clause-zeroed c = zeroed_number c.args.to.addr (V4 c.in-V4.block) c.args.to.len c.in-V4.is c.args.to.zeroed

pub moved_v6-requires-clause-zeroed : goal.moved_v6-requires-clause-zeroed
moved_v6-requires-clause-zeroed c = zeroed_number c.args.to.addr (V6 c.in-V6.block) c.args.to.len c.in-V6.is c.args.to.zeroed
