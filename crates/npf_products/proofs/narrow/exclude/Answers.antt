use Rattle.std.proofs.Common.{false, ◌&&◌, ◌∙◌, not, ap, refl, sym, take_all}
use Rattle.std.specs.Prelude.{nat_lt}
use Rattle.npf_bits.specs.Bits.{has}
use Rattle.npf_cut.specs.SetBits.{set_words}
use Rattle.npf_products.specs.Narrow.{some_has_class}
use Rattle.npf_products.proofs.NarrowLemmas.{excludes_more}
use Rattle.npf_boxes.proofs.CellLemmas.{or_none}
use Rattle.npf_products.proofs.narrow.exclude.Goals as goal

pub loop-table-init : goal.loop-table-init
loop-table-init c = record {
  whole = c.difference_with.auto.a ∙ c.requires.whole;
  left = λ n.
      let old = has c.args.words.now n in
      c.difference_with.ensures n ∙ ap (λ words. old && not (has words n)) c.of.ensures.value
      ∙ ap (λ b. old && not b) (sym (or_none (has (set_words c.args.bits.now c.args.own) n) false refl));
}

pub loop-table-preserved : goal.loop-table-preserved
loop-table-preserved c =
    let bits = c.args.bits.now in
    let tables = c.args.tables in
    record {
      whole = c.exclude_table.auto.words ∙ c.loop-table.invariant.whole;
      left = λ n. excludes_more (has c.args.words.now n) (has c.loop-table.words n) (has c.exclude_table.new.words n) (has (set_words bits c.args.own) n)
          (λ t. nat_lt t tables && has (set_words bits t) n) c.args.listed.now c.loop-table.table-index c.loop-table-test.true
          (c.loop-table.invariant.left n) (c.exclude_table.ensures n);
    }

pub returns : goal.returns
returns c = λ n.
    c.loop-table.invariant.left n
    ∙ ap (λ listed. has c.args.words.now n && not (some_has_class c.args.bits.now c.args.own c.args.tables listed n))
    (take_all c.loop-table.table-index c.args.listed.now c.loop-table-test.false)
