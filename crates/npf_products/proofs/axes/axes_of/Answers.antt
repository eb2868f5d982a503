use Rattle.std.proofs.Common.{[], ◌∷◌, ◌∙◌, ap, arith, get_or, length, subst}
use Rattle.std.proofs.lemmas.List.{length-append}
use Rattle.npf_products.specs.Axis.{IsAxis}
use Rattle.npf_products.specs.Number.{tops_of}
use Rattle.npf_products.proofs.PushLemmas.{push_each}
use Rattle.npf_products.proofs.axes.axes_of.Goals as goal

pub loop-dimension-preserved : goal.loop-dimension-preserved
loop-dimension-preserved c =
    let inv = c.loop-dimension.invariant in
    let i = c.loop-dimension.dimension in
    let tops = tops_of c.args.kind in
    let tables = c.args.tables.now in
    let lists = c.args.lists.now in
    let old = c.loop-dimension.axes.items in
    let new = c.push.new.self.items in
    let axis = c.in_ok-axis.axis in
    let longer = ap length c.in_ok-push.ensures.items ∙ length-append old (axis ∷ []) in
    let here : IsAxis (get_or tops i 0) i tables lists axis =
    subst (λ ts. IsAxis (get_or ts i 0) i tables lists axis) c.tops_of-tops.ensures c.in_ok-axis.ensures.axis in
    record {
      len = omega (arith, longer, inv.len);
      axes_are = λ d none low.
          push_each (λ k a. IsAxis (get_or tops k 0) k tables lists a) old new axis none i c.in_ok-push.ensures.items inv.len
          (λ k below. inv.axes_are k none below) here d low;
      most = c.in_ok-axis.ensures.most ∙ inv.most;
      rises = omega (arith, c.in_ok-axis.ensures.rises, inv.rises);
    }
