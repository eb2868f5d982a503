use Rattle.std.proofs.Common.{◌++◌, codes, ap, ◌∙◌}
use Rattle.npf_ctl_lint.specs.RuleLine.{none_words, places_text}
use Rattle.npf_ctl_query.specs.QueryText.{ordinal_text}
use Rattle.npf_ctl_lint.proofs.TextLemmas.{then_rest}
use Rattle.npf_ctl_lint.proofs.rule_line.write_redundant.Goals as goal

pub returns : goal.returns
returns c =
    let ordinal = ordinal_text c.args.place in
    let places = places_text c.args.replacement.now.others.items in
    let none = none_words c.args.replacement.now.none in
    let end = codes "\n" in
    let by = codes " redundant by" in
    then_rest _ (codes "rule ") (ordinal ++ (by ++ (places ++ (none ++ end)))) c.in_ok-write_text.ensures
    (then_rest _ ordinal (by ++ (places ++ (none ++ end))) c.in_ok-write_ordinal.ensures
    (then_rest _ by (places ++ (none ++ end)) c.in_ok-write_text-2.ensures
    (then_rest _ places (none ++ end) (c.in_ok-write_places.ensures ∙ ap (λ all. c.write_text-2.new.into.items ++ places_text all) c.as_slice.ensures.value)
    (then_rest _ none end (c.in_ok-write_text-3.ensures ∙ ap (λ words. c.write_places.new.into.items ++ words) c.none_words.ensures) c.in_ok-write_text-4.ensures))))
