use Rattle.std.proofs.Common.{◌≡◌, ◌<◌, ◌∙◌, ap, arith, length, sym}
use Rattle.npf_bits.specs.Bits.{has}
use Rattle.npf_boxes.specs.Cell.{section}
use Rattle.npf_boxes.proofs.CellLemmas.{all_written}
use Rattle.npf_cut.specs.Dimension.{class_count}
use Rattle.npf_products.specs.declared.axis.Axis.{Axis}
use Rattle.npf_products.proofs.BoxingLemmas.{filled_more, full_all, full_cells}
use Rattle.npf_products.proofs.full_box.full_box.Goals as goal

pub loop-dimension-preserved : goal.loop-dimension-preserved
loop-dimension-preserved c =
    let shape = c.args.shape.now in
    let axes = c.args.axes.now in
    let d = c.loop-dimension.dimension in
    let words = c.loop-dimension.words in
    let new = c.put.new.words in
    let inv = c.loop-dimension.invariant in
    let len : length new ≡ words.len = omega (arith, c.put.auto.words, c.as_mut_slice.ensures.len) in
    let is = all_written words.len words.items new len in
    let inside : d < length axes = omega (arith, c.requires.six, c.loop-dimension-test.true) in
    record {
      whole = ap length is ∙ c.put.auto.words ∙ ap length c.as_mut_slice.ensures.value ∙ inv.whole;
      filled = λ e n none low.
          ap (λ w. has (section shape e w) n) is
          ∙ filled_more shape axes c.index-axes-dimension.result words.items new c.in_ok-set.set.items d c.count.result inside c.index-axes-dimension.is
          (c.count.ensures ∙ ap (λ (a : Axis). class_count a.dimension) (sym c.index-axes-dimension.is))
          c.in_ok-set.ensures.all (c.put.ensures.here ∙ c.as_slice.ensures.value)
          (λ k below apart. c.put.ensures.elsewhere k below apart ∙ ap (section shape k) c.as_mut_slice.ensures.value) c.requires.six inv.filled e n none low;
    }

pub returns-clause-all : goal.returns-clause-all
returns-clause-all c = full_all c.args.shape.now c.args.axes.now c.loop-dimension.words.items c.requires.six
    (λ d n none low. c.loop-dimension.invariant.filled d n none (omega arith))

pub returns-clause-cells : goal.returns-clause-cells
returns-clause-cells c = full_cells c.args.shape.now c.args.axes.now c.loop-dimension.words.items
    (λ d n none low. c.loop-dimension.invariant.filled d n none (omega arith))
