use Rattle.npf_cut.proofs.RangeLemmas.{in_moved}
use Rattle.npf_cut.proofs.merge.merged.Goals as goal

pub returns : goal.returns
returns c = in_moved c.args.ranges.now.items c.sort_unstable.new.self.items c.sort_unstable.ensures.permutation c.merged_in_order.result (rw c.as_slice.ensures.value at c.merged_in_order.ensures)
