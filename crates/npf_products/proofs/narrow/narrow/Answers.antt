use Rattle.std.proofs.Common.{rules, ◌≡◌, ◌&&◌, ◌∙◌, not, ap, arith, length, sym}
use Rattle.npf_bits.specs.Bits.{has}
use Rattle.npf_boxes.proofs.CellLemmas.{all_written}
use Rattle.npf_products.specs.Condition.{unless_excluded}
use Rattle.npf_products.specs.Narrow.{some_has_class}
use Rattle.npf_products.proofs.NarrowLemmas.{left_over}
use Rattle.npf_products.proofs.narrow.narrow.Goals as goal

pub returns-then-condition : goal.returns-then-condition
returns-then-condition c = λ n.
    let bits = c.args.bits.now in
    let old = has c.args.words.now n in
    let condition = c.args.condition.now in
    c.exclude.ensures n
    ∙ ap (λ listed. old && not (some_has_class bits c.args.own c.args.tables listed n)) c.as_slice.ensures.value
    ∙ ap (λ e. old && unless_excluded e (some_has_class bits c.args.own c.args.tables condition.tables.items n)) (sym c.if-condition.true)

pub returns : goal.returns
returns c = λ n.
    let bits = c.args.bits.now in
    let old = has c.args.words.now n in
    let condition = c.args.condition.now in
    let others = c.in_ok-others.others in
    let left = c.exclude-2.new.words in
    let some = some_has_class bits c.args.own c.args.tables condition.tables.items n in
    let items : others.items ≡ c.args.words.now = search rules in
    let len : length left ≡ others.len = omega (arith, c.exclude-2.auto.words, c.as_mut_slice.ensures.len) in
    let all : c.as_slice-3.result.now ≡ left = c.as_slice-3.ensures.value ∙ all_written others.len others.items left len in
    let rest : has left n ≡ (old && not some) =
    c.exclude-2.ensures n
    ∙ ap (λ words. has words n && not (some_has_class bits c.args.own c.args.tables c.as_slice-2.result.now n)) (c.as_mut_slice.ensures.value ∙ items)
    ∙ ap (λ listed. old && not (some_has_class bits c.args.own c.args.tables listed n)) c.as_slice-2.ensures.value in
    c.difference_with.ensures n ∙ ap (λ words. old && not (has words n)) all ∙ ap (λ b. old && not b) rest ∙ left_over old some
    ∙ ap (λ e. old && unless_excluded e some) (sym c.if-condition.false)
