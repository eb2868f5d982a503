use Rattle.std.proofs.Common.{take, subst, le_refl, take_all, ◌∙◌, ap}
use Rattle.npf_outside.{specs.Sink.Appends, proofs.StreamLemmas.{front_of, written}}
use Rattle.npf_outside.proofs.stream_sink.StreamSink.write_at_once.Goals as goal

pub returns-in_default-Ok-clause-whole : goal.returns-in_default-Ok-clause-whole
returns-in_default-Ok-clause-whole g c =
    let bytes = c.args.bytes.now in
    let all = rw c.in_default-Ok.is-1 at c.write_front.ensures.whole in
    subst (Appends _ _) (ap (λ n. take n bytes) all ∙ take_all _ bytes (le_refl _))
    (written _ _ c.args.self.now.buffer.items (take c.write_front.result.0 bytes) (g.met.W.Stream.steady _ _) c.write_front.ensures.taken c.requires)

pub returns-in_default-Ok-clause-front : goal.returns-in_default-Ok-clause-front
returns-in_default-Ok-clause-front g c =
    front_of _ _ c.write_front.result.0 c.args.bytes.now (written _ _ c.args.self.now.buffer.items _ (g.met.W.Stream.steady _ _) c.write_front.ensures.taken c.requires)

pub returns-in_default-Err-clause-front : goal.returns-in_default-Err-clause-front
returns-in_default-Err-clause-front g c =
    front_of _ _ c.write_front.result.0 c.args.bytes.now (written _ _ c.args.self.now.buffer.items _ (g.met.W.Stream.steady _ _) c.write_front.ensures.taken c.requires)
