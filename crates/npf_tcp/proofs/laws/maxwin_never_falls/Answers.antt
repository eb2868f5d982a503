use Rattle.std.proofs.Common.{◌≤◌, arith}
use Rattle.npf_tcp.specs.Laws.{KeepsMaxwin, IsQuietUnseen}
use Rattle.npf_tcp.proofs.SideLemmas.{sender_after-known, sender_after-maxwin, quiet_sender_after, receiver_after-is_acked, opening_is_quiet}
use Rattle.npf_tcp.proofs.SegmentLemmas.{step_each}
use Rattle.npf_tcp.proofs.laws.maxwin_never_falls.Goals as goal

pub returns-clause-seen : goal.returns-clause-seen
returns-clause-seen c = λ state way seg.
    step_each KeepsMaxwin state way seg (λ s r. sender_after-maxwin s r seg) (λ s r. (receiver_after-is_acked s r seg).maxwin) (λ side seen. omega arith)

pub returns-clause-opening : goal.returns-clause-opening
returns-clause-opening c = opening_is_quiet

pub returns-clause-step : goal.returns-clause-step
returns-clause-step c = λ state way seg quiet.
    let each = step_each (λ old new. IsQuietUnseen old → IsQuietUnseen new) state way seg
    (λ s r q unseen. absurd (unseen (sender_after-known s r seg))) (λ s r. (receiver_after-is_acked s r seg).quiet) (λ side q. q) in
    (each.0 quiet.0, each.1 quiet.1)

pub returns-clause-all : goal.returns-clause-all
returns-clause-all c = λ state way seg quiet.
    let each = step_each (λ old new. IsQuietUnseen old → old.maxwin ≤ new.maxwin) state way seg
    (λ s r. quiet_sender_after s r seg) (λ s r. (receiver_after-is_acked s r seg).rises) (λ side q. omega arith) in
    (each.0 quiet.0, each.1 quiet.1)
