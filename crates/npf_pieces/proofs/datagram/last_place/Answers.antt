use Rattle.npf_pieces.proofs.DatagramsLemmas.{last_is}
use Rattle.npf_pieces.proofs.datagram.last_place.Goals as goal

pub returns : goal.returns
returns c = last_is c.args.set.now _ c.requires
