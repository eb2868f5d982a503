use Rattle.npf_explain.proofs.AskedLemmas.{matches_if_fits}
use Rattle.npf_explain.proofs.asked.PacketAsked.matches.Goals as goal

pub returns : goal.returns
returns c = matches_if_fits c.args.self.now c.args.entry.now c.misfit.result c.is_none.result c.misfit.ensures c.is_none.ensures
