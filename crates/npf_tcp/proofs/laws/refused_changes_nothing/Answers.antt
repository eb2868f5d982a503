use Rattle.std.proofs.Common.{◌≡◌, false, refl}
use Rattle.npf_tcp.proofs.SegmentLemmas.{step_cases}
use Rattle.npf_tcp.proofs.laws.refused_changes_nothing.Goals as goal

pub returns : goal.returns
returns c = λ state way seg. step_cases state way seg (λ r. r.1 ≡ false → r.0 ≡ state) (λ phase cell bounded h. absurd (cc)) (λ h. refl)
