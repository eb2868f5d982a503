use Rattle.std.proofs.Common.{refl, ◌∙◌}
use Rattle.npf_parser_values.{specs.Token.line_feed, proofs.LoopLemmas.{pass_goes, pass_ends}}
use Rattle.npf_parser_values.proofs.tokens.skip_line_feeds.Goals as goal

pub feeds-preserved : goal.feeds-preserved
feeds-preserved c = c.feeds.invariant ∙ pass_goes line_feed refl refl c.feeds.rest.now c.in-Some.next c.in-Some.ensures.begins

pub returns-in-None : goal.returns-in-None
returns-in-None c = c.feeds.invariant ∙ pass_ends line_feed refl refl c.feeds.rest.now c.in-None.ensures.begins
