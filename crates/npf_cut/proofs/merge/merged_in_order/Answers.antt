use Rattle.std.proofs.{Common.{◌≡◌, get_or}, lemmas.List.get_or_default}
use Rattle.npf_cut.specs.declared.range.Range.{Range}
use Rattle.npf_cut.proofs.RangeLemmas.{joined, pushed}
use Rattle.npf_cut.proofs.merge.merged_in_order.Goals as goal
use Rattle.npf_cut.proofs.merge.merged_in_order.Goals.{then-meets, else-meets+in_ok-push}

pub loop-range-preserved : goal.loop-range-preserved
loop-range-preserved c =
    let ranges = c.args.ranges.now in
    let at = c.loop-range.range-index in
    let lt = c.loop-range-test.true in
    let none : Range = record { set = 0; low = 0; high = 0 } in
    let is : (d : Range) → get_or ranges at d ≡ get_or ranges at none = λ d. get_or_default ranges at d none lt in
    let inv = c.loop-range.invariant in
    elim c.if-meets.branch [
      | then-meets w ↦
          let meets = c.meets.ensures.0 w.if-meets.true in
          let done = joined ranges c.loop-range.merged.items c.loop-range.last (get_or ranges at none) at lt is inv meets.0 meets.1 meets.2 in
          rw w.merged-is (rw w.last-is (rw w.max.ensures done))
      | else-meets+in_ok-push w ↦
          let done = pushed ranges c.loop-range.merged.items c.loop-range.last (get_or ranges at none) at lt is inv in
          rw w.merged-is (rw w.last-is (rw (w.in_ok-push.ensures.items) done))
    ]
