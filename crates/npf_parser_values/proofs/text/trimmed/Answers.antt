use Rattle.std.proofs.Common.{sym, ap, ◌∙◌}
use Rattle.npf_parser_values.{specs.Token.trimmed, proofs.TextLemmas.{trimmed_empty, trimmed_feed, trimmed_other}}
use Rattle.npf_parser_values.proofs.text.trimmed.Goals as goal

pub returns-then-not-is_line_feed : goal.returns-then-not-is_line_feed
returns-then-not-is_line_feed c =
    c.in-Some.ensures.cases.0 ∙ sym (trimmed_other c.in-Some.front.now c.in-Some.last.now (sym c.if-not-is_line_feed.ensures)) ∙ ap trimmed (sym c.in-Some.ensures.cases.0) ∙ c.feeds.invariant

pub feeds-preserved : goal.feeds-preserved
feeds-preserved c = sym (trimmed_feed c.in-Some.front.now c.in-Some.last.now (sym c.if-not-is_line_feed.ensures)) ∙ ap trimmed (sym c.in-Some.ensures.cases.0) ∙ c.feeds.invariant

pub returns-in-None : goal.returns-in-None
returns-in-None c = trimmed_empty c.feeds.rest.now c.in-None.ensures.cases ∙ c.feeds.invariant
