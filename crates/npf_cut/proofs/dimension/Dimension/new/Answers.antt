use Rattle.npf_cut.proofs.{DimensionLemmas.cut_is, PartitionLemmas.respects_numbered}
use Rattle.npf_cut.proofs.dimension.Dimension.new.Goals as goal

pub returns-clause-cut : goal.returns-clause-cut
returns-clause-cut c =
    let starts = rw c.as_slice.ensures.value at c.in_ok-starts.ensures in
    let spans = rw (c.as_slice-2.ensures.value, c.as_slice-3.ensures.value) at c.in_ok-spans.ensures.same in
    let respects = rw c.as_slice-4.ensures.value at c.in_ok-partition.ensures.respects in
    cut_is c.args.ranges.items c.in_ok-ranges.ranges.items c.args.top _ c.in_ok-ranges.ensures starts spans
    (respects_numbered c.in_ok-spans.spans.items c.in_ok-partition.partition.classes.items c.number.new.self.classes.items c.in_ok-firsts.firsts.items respects c.in_ok-firsts.ensures.numbers)

pub returns-clause-counted : goal.returns-clause-counted
returns-clause-counted c = rw c.as_slice-4.ensures.value at c.in_ok-partition.ensures.counted
