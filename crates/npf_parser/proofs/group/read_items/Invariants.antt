use Rattle.std.proofs.Common.{◌≡◌, length}
use Rattle.npf_phrase.{specs.Grammar.meaning, proofs.ListLemmas.extend}
use Rattle.npf_parser.specs.Rule.{items}
use Rattle.npf_parser.proofs.group.read_items.Given as goal

abbrev pub invariant-items : goal.invariant-items
invariant-items l = (meaning items).read l.fn.tokens ≡ extend l.items.items ((meaning items).read l.rest)

abbrev pub decreases-items : goal.decreases-items
decreases-items l = length l.rest
