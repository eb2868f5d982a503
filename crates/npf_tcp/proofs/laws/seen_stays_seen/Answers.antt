use Rattle.npf_tcp.{specs.Laws.StaysSeen, proofs.{SideLemmas.{sender_after-known, receiver_after-is_acked}, SegmentLemmas.step_each}}
use Rattle.npf_tcp.proofs.laws.seen_stays_seen.Goals as goal

pub returns : goal.returns
returns c = λ state way seg.
    step_each StaysSeen state way seg (λ s r seen. sender_after-known s r seg) (λ s r. (receiver_after-is_acked s r seg).seen) (λ side seen. seen)
