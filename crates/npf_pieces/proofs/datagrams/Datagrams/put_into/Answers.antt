use Rattle.npf_pieces.proofs.DatagramsLemmas.{places_of}
use Rattle.npf_pieces.proofs.datagrams.Datagrams.put_into.Goals as goal

pub put_at-requires-clause-here : goal.put_at-requires-clause-here
put_at-requires-clause-here c = rw c.as_slice.ensures.value (places_of _ c.args.self.extents.items c.args.self.bytes.items c.requires)
