use Rattle.npf_tcp.{specs.Class.segment_class, proofs.{CellLemmas.symmetric_class, MirrorLemmas.step-mirrored}}
use Rattle.npf_tcp.proofs.laws.sides_exchange.Goals as goal

pub returns-clause-phases : goal.returns-clause-phases
returns-clause-phases c = λ state way seg h.
    let exchanged = step-mirrored state way seg (symmetric_class state.phase h (segment_class seg.flags)) in (exchanged.next, exchanged.accepted)

pub returns-clause-classes : goal.returns-clause-classes
returns-clause-classes c = λ state way seg h. let exchanged = step-mirrored state way seg h in (exchanged.next, exchanged.accepted)
