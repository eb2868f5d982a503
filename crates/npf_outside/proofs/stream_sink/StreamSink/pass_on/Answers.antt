use Rattle.std.proofs.Common.{rules}
use Rattle.npf_outside.proofs.StreamLemmas.{moved}
use Rattle.npf_outside.proofs.stream_sink.StreamSink.pass_on.Goals as goal

pub returns-clause-stays : goal.returns-clause-stays
returns-clause-stays g c =
    moved _ _ c.write_front-taken.result.0 _ c.as_slice.result.now _ (g.met.W.Stream.steady _ _) c.write_front-taken.ensures.taken (search rules) (search rules)
