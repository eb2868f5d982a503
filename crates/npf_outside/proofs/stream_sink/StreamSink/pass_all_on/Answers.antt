use Rattle.std.proofs.Common.{[]}
use Rattle.npf_outside.proofs.{SinkLemmas.Appends-append, StreamLemmas.kept}
use Rattle.npf_outside.proofs.stream_sink.StreamSink.pass_all_on.Goals as goal

pub returns-clause-stays : goal.returns-clause-stays
returns-clause-stays g c =
    Appends-append _ _ _ [] [] c.pass_on.ensures.stays (kept _ _ c.pass_on.new.self.buffer.items (g.met.W.Stream.steady _ _) c.flush.ensures.bytes)
