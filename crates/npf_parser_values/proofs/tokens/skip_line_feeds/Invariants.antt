use Rattle.std.proofs.Common.{◌≡◌, true, length}
use Rattle.npf_phrase.specs.Grammar.{meaning}
use Rattle.npf_parser_values.specs.Token.{gap}
use Rattle.npf_parser_values.proofs.tokens.skip_line_feeds.Given as goal

abbrev pub invariant-feeds : goal.invariant-feeds
invariant-feeds l = (meaning (gap true)).read l.fn.tokens ≡ (meaning (gap true)).read l.rest

abbrev pub decreases-feeds : goal.decreases-feeds
decreases-feeds l = length l.rest
