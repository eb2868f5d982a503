use Rattle.std.proofs.Common.{◌≡◌, refl}
use Rattle.npf_tcp.proofs.SegmentLemmas.{step_cases, state_after-strict}
use Rattle.npf_tcp.proofs.laws.strictness_stays.Goals as goal

pub returns : goal.returns
returns c = λ state way seg. step_cases state way seg (λ r. r.0.strict ≡ state.strict) (λ phase led bounded. state_after-strict phase state way seg) refl
