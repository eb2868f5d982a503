use Rattle.std.proofs.Common.{◌∙◌, sym}
use Rattle.npf_products.proofs.AddsLemmas.{adds_as, adds_none}
use Rattle.npf_products.proofs.AgreeLemmas.{no_opening, opening_agrees}
use Rattle.npf_products.proofs.rule.add_opening.Goals as goal

pub returns-in_ok-add_ranges : goal.returns-in_ok-add_ranges
returns-in_ok-add_ranges c =
    let kind = c.args.kind in
    adds_as kind _ _ _ _ (c.in_ok-add_ranges.ensures kind)
    (opening_agrees kind c.args.decision c.args.state _ (sym c.keeps_passed-asked.ensures ∙ c.if-asked.true) c.in_ok-control_bits.ensures)

pub returns-else-asked : goal.returns-else-asked
returns-else-asked c =
    let kind = c.args.kind in
    adds_none kind _ _ (no_opening kind c.args.decision c.args.state (sym c.keeps_passed-asked.ensures ∙ c.if-asked.false))
