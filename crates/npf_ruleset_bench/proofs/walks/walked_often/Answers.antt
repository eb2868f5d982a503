-- The bytes that are walked are those of the packet that was decoded.
use Rattle.npf_types.specs.declared.link.Link.TheVariants.{Raw}
use Rattle.npf_ruleset_bench.proofs.walks.walked_often.Goals as goal

pub walk-place-requires : goal.walk-place-requires
walk-place-requires c = c.decoded_is_packet.ensures Raw c.args.record.now c.in-Ip.facts c.in-Ip.ensures
