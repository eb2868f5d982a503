use Rattle.std.proofs.Common.{◌∙◌, ap, arith, get_or}
use Rattle.npf_types.specs.declared.interface.IfId.{IfId}
use Rattle.npf_products.specs.Condition.{has_number}
use Rattle.npf_products.specs.Number.{numbers_of}
use Rattle.npf_products.proofs.AddsLemmas.{adds_as}
use Rattle.npf_products.proofs.AgreeLemmas.{on_agrees, on_none}
use Rattle.npf_products.proofs.place.add_on.Goals as goal

pub returns-then-id-eq0 : goal.returns-then-id-eq0
returns-then-id-eq0 c = λ kind on is. adds_as kind _ _ _ _ (c.in_ok-add_test.ensures kind)
    (on_none kind on c.args.id.0 (ap (λ (id : IfId). id.0) is) (omega arith))

pub returns : goal.returns
returns c = λ kind on is. adds_as kind _ _ _ _ (c.in_ok-add_ranges.ensures kind) (λ tables facts ifid dir packet.
    ap (λ places. has_number places (get_or (numbers_of facts ifid dir) 0 0)) c.in_ok-places_of.ensures
    ∙ on_agrees kind on c.args.id.0 (ap (λ (id : IfId). id.0) is) (omega arith) (λ zero. omega arith) tables facts ifid dir packet)
