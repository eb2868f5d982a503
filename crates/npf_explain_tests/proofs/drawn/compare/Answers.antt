-- The bytes that are walked are those of the packet that was decoded.
use Rattle.npf_types.specs.declared.link.Link.TheVariants.{Raw}
use Rattle.npf_explain_tests.proofs.drawn.compare.Goals as goal

pub walk-verdict-requires : goal.walk-verdict-requires
walk-verdict-requires c = c.decoded_is_packet.ensures Raw c.args.bytes.now c.in-Ip.facts c.in-Ip.ensures
