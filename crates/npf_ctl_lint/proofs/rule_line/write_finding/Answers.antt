use Rattle.std.proofs.Common.{◌++◌, codes, sym, ap, ◌∙◌}
use Rattle.npf_ctl_lint.specs.RuleLine.{finding_line, places_text}
use Rattle.npf_ctl_query.specs.QueryText.{ordinal_text}
use Rattle.npf_ctl_lint.proofs.TextLemmas.{then_rest}
use Rattle.npf_ctl_lint.proofs.rule_line.write_finding.Goals as goal

pub returns-in_ok-write_text-in-Impossible-2 : goal.returns-in_ok-write_text-in-Impossible-2
returns-in_ok-write_text-in-Impossible-2 c =
    let ordinal = ordinal_text c.args.place in
    let end = codes " dead impossible\n" in
    then_rest _ (codes "rule ") (ordinal ++ end) c.in_ok-write_text-in-Impossible.ensures
    (then_rest _ ordinal end c.in_ok-write_ordinal-in-Impossible.ensures c.in_ok-write_text-in-Impossible-2.ensures)
    ∙ ap (λ finding. c.args.into.now.items ++ finding_line c.args.place finding) (sym c.in-Impossible.is)

pub returns-in_ok-write_text-in-Covered-3 : goal.returns-in_ok-write_text-in-Covered-3
returns-in_ok-write_text-in-Covered-3 c =
    let ordinal = ordinal_text c.args.place in
    let places = places_text c.in-Covered.others.items in
    let covered = codes " dead covered" in
    let end = codes "\n" in
    then_rest _ (codes "rule ") (ordinal ++ (covered ++ (places ++ end))) c.in_ok-write_text-in-Covered.ensures
    (then_rest _ ordinal (covered ++ (places ++ end)) c.in_ok-write_ordinal-in-Covered.ensures
    (then_rest _ covered (places ++ end) c.in_ok-write_text-in-Covered-2.ensures
    (then_rest _ places end (c.in_ok-write_places-in-Covered.ensures ∙ ap (λ all. c.write_text-in-Covered-2.new.into.items ++ places_text all) c.as_slice.ensures.value)
    c.in_ok-write_text-in-Covered-3.ensures)))
    ∙ ap (λ finding. c.args.into.now.items ++ finding_line c.args.place finding) (sym c.in-Covered.is)
