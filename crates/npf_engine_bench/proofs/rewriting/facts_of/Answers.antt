use Rattle.npf_types.specs.declared.link.Link.TheVariants.{Raw}
use Rattle.npf_engine_bench.proofs.rewriting.facts_of.Goals as goal

pub returns-in-Ip : goal.returns-in-Ip
returns-in-Ip c =
    c.decoded_has_room.ensures Raw c.args.bytes.now c.in-Ip.facts c.in-Ip.ensures
