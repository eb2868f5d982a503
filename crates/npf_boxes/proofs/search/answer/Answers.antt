use Rattle.std.proofs.Common.{refl, sym, ap, ◌∙◌}
use Rattle.npf_boxes.specs.Cell.{in_box}
use Rattle.npf_boxes.proofs.search.answer.Goals as goal

pub returns : goal.returns
returns c =
    let cell = c.in_ok-least_cell.field-0 in
    (refl, (cell, ap (λ words. in_box c.args.boxes.now.shape words cell) (sym c.deref.ensures.value) ∙ c.in_ok-least_cell.ensures.0))
