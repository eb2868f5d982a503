use Rattle.npf_table.proofs.PrefixTextLemmas.{host_reading}
use Rattle.npf_table.proofs.prefix_text.host.Goals as goal

pub returns-in-Some : goal.returns-in-Some
returns-in-Some c = host_reading c.args.text.now c.in-Some.addr c.width.result c.of.result c.in-Some.ensures c.width.ensures c.of.ensures.fits c.of.ensures.addr c.of.ensures.len

pub returns-in-None : goal.returns-in-None
returns-in-None c = λ q h. c.in-None.ensures q.addr h.address
