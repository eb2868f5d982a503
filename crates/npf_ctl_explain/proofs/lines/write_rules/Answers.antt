use Rattle.std.proofs.Common.{◌≡◌, ◌∙◌, ◌++◌, ℕ, List, map, slice_get, sym, ap, ap₂}
use Rattle.std.{specs.Option.option_map, proofs.lemmas.Option.slice_get-map}
use Rattle.npf_precedence.specs.Entry.{ordered_rule}
use Rattle.npf_ctl_explain.{specs.{Beside.beside, Line.rule_line}, proofs.BesideLemmas.{each_more, got}}
use Rattle.npf_ctl_explain.proofs.lines.write_rules.Goals as goal

pub loop-at-preserved : goal.loop-at-preserved
loop-at-preserved c =
    let line = rule_line c.args.model.now in
    let rules = c.args.rules.now in
    let told = c.args.told.now in
    let at = c.loop-at.at in
    let into = c.loop-at.into.items in
    let here = ap₂ (λ x y. into ++ beside line x y)
    (ap (option_map ordered_rule) (got rules at c.get.result c.get.ensures.lookup.1 c.get.ensures.lookup.3) ∙ sym (slice_get-map ordered_rule rules at))
    (got told at c.get-in-loop-at.result c.get-in-loop-at.ensures.lookup.1 c.get-in-loop-at.ensures.lookup.3) in
    each_more (λ k. beside line (slice_get (map ordered_rule rules) k) (slice_get told k)) c.args.into.now.items into _ at c.loop-at.invariant
    (c.in_ok-write_told_rule.ensures ∙ here)
