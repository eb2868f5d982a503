use Rattle.std.proofs.Common.{◌≡◌, length}
use Rattle.npf_parser_values.specs.Token.{trimmed}
use Rattle.npf_parser_values.proofs.text.trimmed.Given as goal

abbrev pub invariant-feeds : goal.invariant-feeds
invariant-feeds l = trimmed l.rest ≡ trimmed l.fn.tokens

abbrev pub decreases-feeds : goal.decreases-feeds
decreases-feeds l = length l.rest
