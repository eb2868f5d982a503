use Rattle.std.proofs.Common.{◌≡◌, ◌<◌, ◌+◌, ◌++◌, ℕ, List, map, drop, length, vec_len, slice_index_or}
use Rattle.npf_runner_dealing.specs.Lanes.{of_lane, vec_items}
use Rattle.npf_runner_dealing.proofs.lanes.deal.Given as goal

abbrev pub invariant-loop-lane : goal.invariant-loop-lane
invariant-loop-lane g l =
    (vec_len l.dealt ≡ l.lanes)
    × (l.lane-index + length l.left.items ≡ length l.order)
    × ((w : ℕ) (d : List _) → w < l.lanes →
    of_lane w l.order l.fn.items.items ≡ slice_index_or (map vec_items l.dealt.items) w d ++ of_lane w (drop l.lane-index l.order) l.left.items)
