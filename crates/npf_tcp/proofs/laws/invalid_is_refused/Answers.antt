use Rattle.std.proofs.Common.{◌≡◌, ◌∙◌, false, refl, ap}
use Rattle.npf_tcp.{specs.Cell.cell, proofs.{CellLemmas.cell-invalid, SegmentLemmas.step_cases}}
use Rattle.npf_tcp.proofs.laws.invalid_is_refused.Goals as goal

pub returns : goal.returns
returns c = λ state way seg invalid.
    let nowhere = ap (cell state.phase way) invalid ∙ cell-invalid state.phase way in
    step_cases state way seg (λ r. r.1 ≡ false) (λ phase led bounded. absurd (cc)) refl
