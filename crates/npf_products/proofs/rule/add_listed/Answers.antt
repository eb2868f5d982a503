use Rattle.std.proofs.Common.{ap, get_or}
use Rattle.npf_products.specs.Condition.{has_number}
use Rattle.npf_products.specs.Number.{numbers_of}
use Rattle.npf_products.proofs.AddsLemmas.{adds_as}
use Rattle.npf_products.proofs.rule.add_listed.Goals as goal

pub returns : goal.returns
returns c = λ kind. adds_as kind _ _ _ _ (c.in_ok-add_ranges.ensures kind) (λ tables facts ifid dir packet.
    ap (λ ranges. has_number ranges (get_or (numbers_of facts ifid dir) 3 0)) c.in_ok-numbers.ensures)
