use Rattle.npf_tcp.proofs.FlagLemmas.{masked}
use Rattle.npf_tcp.proofs.flag.has_ack.Goals as goal

pub returns : goal.returns
returns c = masked c.args.flags 4
